use Rattle.std.proofs.Common.{◌≡◌, reverse, length}
use Rattle.std.specs.Cmp.Lexicographic.{slice_cmp}
use Rattle.names_order.specs.Order.{octet_order}
use Rattle.names_order.proofs.comparison.without_same_end.Given as goal

-- what is left compares as the whole does
abbrev pub invariant-loop-left_front : goal.invariant-loop-left_front
invariant-loop-left_front l = slice_cmp octet_order (reverse l.fn.left) (reverse l.fn.right) ≡ slice_cmp octet_order (reverse l.left_rest) (reverse l.right_rest)

abbrev pub decreases-loop-left_front : goal.decreases-loop-left_front
decreases-loop-left_front l = length l.left_rest
