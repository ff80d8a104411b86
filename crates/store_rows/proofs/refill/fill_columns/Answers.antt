use Rattle.std.proofs.Common.{◌+◌, pos, arith, ap, ◌∙◌}
use Rattle.sqlite.specs.Values.{bound}
use Rattle.store_rows.specs.Bound.{first_place}
use Rattle.store_rows.proofs.Refills.{one_more_byte}
use Rattle.store_rows.proofs.Columns.{one_more_in, all_in, all_bytes}
use Rattle.store_rows.proofs.refill.fill_columns.Goals as goal

pub each-init : goal.each-init
each-init c = (omega arith, ap bound c.clear.ensures.items, tt)

pub cells_of-requires-clause-index : goal.cells_of-requires-clause-index
cells_of-requires-clause-index c = omega (arith, c.each.invariant.0, c.each-test.true, c.requires.index)

pub each-preserved : goal.each-preserved
each-preserved c =
    let l = c.each.invariant in
    let e = c.cells_of.ensures in (
      omega (arith, l.0),
      one_more_in c.args.list.now c.args.index c.args.group.now c.each.listed-index _ _ _ c.cells_of.result c.each-test.true l.1
          (e.place ∙ ap (λ place. pos (first_place c.args.list.now + place)) l.0) e.issuer e.scope e.serial e.reason c.in_ok-push_columns.ensures,
      one_more_byte c.args.group.now c.each.listed-index _ c.each-test.true l.2 e.byte,
    )

pub returns-clause-columns : goal.returns-clause-columns
returns-clause-columns c = c.each.invariant.1 ∙ all_in c.args.list.now c.args.index c.args.group.now c.each.listed-index (omega (arith, c.each-test.false, c.each.auto.listed-index-end))

pub returns-clause-bytes : goal.returns-clause-bytes
returns-clause-bytes c = all_bytes c.args.group.now c.each.listed-index (omega (arith, c.each-test.false, c.each.auto.listed-index-end)) c.each.invariant.2
