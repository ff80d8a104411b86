use Rattle.std.proofs.Common.{length}
use Rattle.names_distinguished.specs.NameView.{entries_of}
use Rattle.names_distinguished.proofs.InOrder.{IsAbreast}
use Rattle.names_distinguished.proofs.rdn.Rdn.matches_in_order.Given as goal

abbrev pub invariant-loop-one : goal.invariant-loop-one
invariant-loop-one l = IsAbreast (entries_of l.self) (entries_of l.other) (entries_of l.left) (entries_of l.right)

abbrev pub decreases-loop-one : goal.decreases-loop-one
decreases-loop-one l = length (entries_of l.left)
