use Rattle.std.proofs.Common.{◌≡◌, ◌<◌, ℕ, slice_index}
use Rattle.names_order.proofs.comparison.same_bits.Given as goal

-- the octets so far are the same
abbrev pub invariant-loop-i : goal.invariant-loop-i
invariant-loop-i l = (k : ℕ) → k < l.i → slice_index l.left k ≡ slice_index l.right k
