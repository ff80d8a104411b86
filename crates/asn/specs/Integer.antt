-- The content of an INTEGER or an ENUMERATED (X.690 8.3 and 8.4), and its value.
use Rattle.der.specs.Contents.{IsInteger}
use Rattle.std.specs.Prelude.{◌≡◌, ◌<◌, ◌+◌, ◌*◌, ◌/◌, ◌%◌, ◌^◌, ℕ, List, [], ◌∷◌, length, slice_index, ℤ, pos, ◌-ℤ◌}

-- the number that octets spell in binary, with the most significant first
unfoldable pub binary_value : List ℕ → ℕ
binary_value [] = 0
binary_value (octet ∷ rest) = octet * 256 ^ length rest + binary_value rest

-- two's complement: each bit counts its power of two, but bit 8 of the first octet is taken away
-- (X.690 8.3.3)
unfoldable pub integer_value : List ℕ → ℤ
integer_value [] = pos 0
integer_value (first ∷ rest) =
    pos (first % 128 * 256 ^ length rest + binary_value rest)
    -ℤ pos (first / 128 * 128 * 256 ^ length rest)

-- the content of an INTEGER that is at least 0 and below 2^160, and its value
pub record IsNumber20 (octets : List ℕ) (number : ℕ) : Type 0 where
  pub content : IsInteger octets
  pub value : integer_value octets ≡ pos number
  pub bound : number < 2 ^ 160

-- the same number in binary, with no octet of zeros at the front
-- the octets are not the content of an INTEGER whose number is not negative
abbrev pub HasNoMagnitude : List ℕ → Type 0
HasNoMagnitude content = (number : ℕ) → IsInteger content → integer_value content ≡ pos number → ⊥

pub record IsMagnitude (octets magnitude : List ℕ) : Type 0 where
  pub content : IsInteger octets
  pub value : integer_value octets ≡ pos (binary_value magnitude)
  pub shortest : 0 < length magnitude → 0 < slice_index magnitude 0
