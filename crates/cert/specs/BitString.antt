-- BIT STRINGs, whose contents are the count of unused bits, and the octets of the bits (X.690, 8.6.2)
use Rattle.std.specs.Prelude.{ℕ, List, [], ◌∷◌, Bool, false, ◌==◌, drop}
use Rattle.asn.specs.Place.{Place, seen_tlv, body}
use Rattle.cert.specs.declared.bit_string.BitString as code

-- the octets of the bits
abbrev pub bits_in : List ℕ → List ℕ
bits_in contents = drop 1 contents

-- whether the bits are whole octets
abbrev pub has_no_unused_bits : List ℕ → Bool
has_no_unused_bits [] = false
has_no_unused_bits (unused ∷ bits) = unused == 0

-- where the whole value stands, and the octets of the bits
pub record BitString : Type 0 where
  pub value : Place
  pub octets : List ℕ

abbrev pub bit_string_at : Place → BitString
bit_string_at value = record { value = value; octets = bits_in (body value) }

abbrev pub seen_bit_string : code.BitString → BitString
seen_bit_string read = bit_string_at (seen_tlv read.value)
