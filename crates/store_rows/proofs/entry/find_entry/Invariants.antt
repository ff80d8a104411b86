use Rattle.std.proofs.Common.{◌≡◌, ◌-◌, ◌≤◌}
use Rattle.sqlite.specs.State.{HasCleanDisk}
use Rattle.sqlite.specs.Held.{state}
use Rattle.store_sql.specs.Statements.{CommitsNothing}
use Rattle.store_rows.specs.Contents.{scope_number}
use Rattle.store_rows.proofs.Entries.{IsNarrowed}
use Rattle.store_rows.proofs.entry.find_entry.Given as goal

abbrev pub invariant-loop-low : goal.invariant-loop-low
invariant-loop-low g l =
    let old = state g.S.Store l.fn.tx.conn.now in
    let now = state g.S.Store l.tx.conn.now in
    (l.tx.conn.ghost_name ≡ l.initial.tx.conn.ghost_name) × CommitsNothing old now × (l.high ≤ 4294967296)
    × (HasCleanDisk now → IsNarrowed old now l.list.issuer (scope_number l.list.scope) l.serial l.low l.high)

abbrev pub decreases-loop-low : goal.decreases-loop-low
decreases-loop-low g l = l.high - l.low
