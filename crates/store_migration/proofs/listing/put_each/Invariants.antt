use Rattle.std.proofs.Common.{◌≡◌, List, [], map, take}
use Rattle.sqlite.specs.Held.{state}
use Rattle.sqlite.specs.State.{HasCleanDisk}
use Rattle.store_sql.specs.Statements.{CommitsNothing}
use Rattle.store_adoption.specs.Seen.{seen_unscoped_list}
use Rattle.store_taking.specs.Passing.{HasStepped}
use Rattle.store_adoption.specs.Version1.{UnscopedEntry}
use Rattle.store_migration.specs.Grouped.{HasSameLists, seen_unscoped_entry}
use Rattle.store_migration.specs.Moved.{HasMoved}
use Rattle.store_migration.proofs.listing.put_each.Given as goal

abbrev pub invariant-each : goal.invariant-each
invariant-each g l =
    let old = state g.S.Store l.fn.tx.conn.now in
    let now = state g.S.Store l.tx.conn.now in
    (l.tx.conn.ghost_name ≡ l.initial.tx.conn.ghost_name) × CommitsNothing old now
    × (HasCleanDisk now → (entries : List UnscopedEntry) → HasSameLists (map seen_unscoped_entry l.sorted) entries → HasStepped old now (HasMoved (map seen_unscoped_list l.lists) entries []) (HasMoved (map seen_unscoped_list l.lists) entries (map seen_unscoped_list (take l.list-index l.lists))))
