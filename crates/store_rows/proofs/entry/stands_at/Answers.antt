use Rattle.std.proofs.Common.{arith, ap, ◌+◌}
use Rattle.sqlite.specs.Held.{state}
use Rattle.sqlite.specs.State.{HasCleanDisk}
use Rattle.store_rows.specs.Contents.{scope_number}
use Rattle.store_rows.proofs.Entries.{stands, scope_low}
use Rattle.store_rows.proofs.entry.stands_at.Goals as goal

pub returns-clause-finds : goal.returns-clause-finds
returns-clause-finds g c clean =
    let first : HasCleanDisk (state g.S.Store c.args.tx.now.conn.now) = omega (arith, clean, c.rows_at.ensures.survives.clean) in
    stands _ _ c.args.list.now.issuer (scope_number c.args.list.now.scope) c.args.index _ c.args.serial.now c.in_ok-rows.rows.items c.read_entries.result
    (rw (← c.as_slice.ensures.value) c.read_entries.ensures.ok) (rw (← c.as_slice.ensures.value) c.read_entries.ensures.schema)
    (scope_low c.args.list.now.scope) c.requires.index (ap (λ base. base + c.args.index) c.base_of.ensures.place) (c.requires.inside first) (c.in_ok-rows.ensures.shows clean)
