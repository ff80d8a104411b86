use Rattle.std.proofs.Common.{◌≡◌, ◌↔◌, List, [], false, length}
use Rattle.sqlite.specs.Order.{Row}
use Rattle.sqlite.specs.State.{HasCleanDisk, IsUnchanged, Survives}
use Rattle.sqlite.specs.Held.{state}
use Rattle.sqlite.specs.Given.{HasGiven}
use Rattle.store_adoption.proofs.row_test.test_rows.Given as goal

abbrev pub invariant-each : goal.invariant-each
invariant-each g l =
    let old = state g.S.Store l.fn.conn in
    let now = state g.S.Store l.rows.conn.now in
    (l.rows.conn.ghost_name ≡ l.initial.rows.conn.ghost_name) × (l.rows.conn.now.in_transaction ≡ false) × Survives old now (λ _. ⊥)
    × (HasCleanDisk now → (given : List Row) × HasGiven g.S.Store l.sql [] l.rows.conn.now given × IsUnchanged old now × g.T.RowTest.passed l.test given × (length given ≡ l._shown))
    × ((rows : List Row) → g.T.RowTest.are_formed l.fn.test rows ↔ g.T.RowTest.are_formed l.test rows)
