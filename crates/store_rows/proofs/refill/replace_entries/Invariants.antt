use Rattle.std.proofs.Common.{◌≡◌, ◌≤◌, ◌-◌, length, map, take}
use Rattle.std.specs.List.{AllByRecursion}
use Rattle.sqlite.specs.Held.{state}
use Rattle.sqlite.specs.State.{HasCleanDisk}
use Rattle.statements_facts.specs.Listed.{seen_listed}
use Rattle.store_sql.specs.Statements.{CommitsNothing}
use Rattle.store_rows.specs.Contents.{scope_number}
use Rattle.store_rows.specs.Holding.{HasByte, with_entries}
use Rattle.store_rows.specs.Steps.{Moves}
use Rattle.store_rows.proofs.refill.replace_entries.Given as goal

abbrev pub invariant-groups : goal.invariant-groups
invariant-groups g l =
    let old = state g.S.Store l.fn.tx.conn.now in
    let now = state g.S.Store l.tx.conn.now in
    (l.tx.conn.ghost_name ≡ l.fn.tx.conn.ghost_name) × CommitsNothing old now × (l.index ≤ length l.all) × (length l.all ≤ 4294967296) × AllByRecursion HasByte (map seen_listed (take l.index l.all))
    × (HasCleanDisk now → Moves old now (with_entries l.list.issuer (scope_number l.list.scope) (map seen_listed (take l.index l.all))))

abbrev pub decreases-groups : goal.decreases-groups
decreases-groups g l = length l.all - l.index

abbrev pub invariant-rest : goal.invariant-rest
invariant-rest g l =
    let old = state g.S.Store l.fn.tx.conn.now in
    let now = state g.S.Store l.tx.conn.now in
    (l.tx.conn.ghost_name ≡ l.fn.tx.conn.ghost_name) × CommitsNothing old now × (l.index ≤ length l.all) × (length l.all ≤ 4294967296) × AllByRecursion HasByte (map seen_listed (take l.index l.all))
    × (HasCleanDisk now → Moves old now (with_entries l.list.issuer (scope_number l.list.scope) (map seen_listed (take l.index l.all))))

abbrev pub decreases-rest : goal.decreases-rest
decreases-rest g l = length l.all - l.index
