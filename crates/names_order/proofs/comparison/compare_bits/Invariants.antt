use Rattle.std.proofs.Common.{◌≡◌, ◌-◌}
use Rattle.std.specs.Prelude.{map}
use Rattle.std.specs.List.{range_with_len}
use Rattle.std.specs.Cmp.Lexicographic.{slice_cmp}
use Rattle.std.specs.Ordering.{nat_cmp}
use Rattle.names.specs.Ip.{bit}
use Rattle.names.specs.Bases.{address_range}
use Rattle.names_order.specs.Order.{prefix_bits}
use Rattle.names_order.proofs.comparison.compare_bits.Given as goal

-- the bits from here on compare as all do
abbrev pub invariant-loop-i : goal.invariant-loop-i
invariant-loop-i l =
    slice_cmp nat_cmp (prefix_bits (address_range l.fn.left)) (prefix_bits (address_range l.fn.right))
    ≡ slice_cmp nat_cmp (map (bit l.left.address.now) (range_with_len l.i (l.left.prefix - l.i))) (map (bit l.right.address.now) (range_with_len l.i (l.right.prefix - l.i)))
