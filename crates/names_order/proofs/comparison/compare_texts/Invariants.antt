use Rattle.std.proofs.Common.{◌≡◌, reverse, length}
use Rattle.std.specs.Cmp.Lexicographic.{slice_cmp}
use Rattle.names_order.specs.Order.{octet_order}
use Rattle.names_order.proofs.comparison.compare_texts.Given as goal

-- what is left compares as the whole does
abbrev pub invariant-loop-one : goal.invariant-loop-one
invariant-loop-one l = slice_cmp octet_order (reverse l.fn.left) (reverse l.fn.right) ≡ slice_cmp octet_order (reverse l.left_rest) (reverse l.right_rest)

abbrev pub decreases-loop-one : goal.decreases-loop-one
decreases-loop-one l = length l.left_rest
