use Rattle.std.proofs.Common.{◌≡◌, map, decimal}
use Rattle.std.specs.List.{All}
use Rattle.cli_operands.specs.Purpose.{IsServedArc}
use Rattle.cli_operands.proofs.purpose.arcs_of.Given as goal

abbrev pub invariant-loop-part : goal.invariant-loop-part
invariant-loop-part l =
    (goal.iterator-loop-part).can_next l.part-iterator
    × (goal.iterator-loop-part).is_finite l.part-iterator
    × All IsServedArc l.arcs.items
    × (map (λ part. part.now) l.yielded ≡ map decimal l.arcs.items)
