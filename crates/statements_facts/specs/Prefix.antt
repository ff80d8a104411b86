-- The first octets of a text as a number, the first octet first, as if zeros stood behind a shorter text.
use Rattle.std.specs.Prelude.{ℕ, zero, suc, ◌+◌, ◌*◌, List, slice_index}

abbrev pub prefix_value : ℕ → List ℕ → ℕ
prefix_value zero octets = 0
prefix_value (suc count) octets = prefix_value count octets * 256 + slice_index octets count
