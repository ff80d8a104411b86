-- What the contents of a primitive value have to be (X.690, 8.2 to 8.8, 8.19, 11.1 and 11.2).
use Rattle.std.specs.Prelude.{◌≡◌, ◌⊎◌, ℕ, ◌<◌, ◌≤◌, ◌^◌, ◌%◌, List, [], ◌∷◌, length, slice_index, ◌-◌}

-- BOOLEAN (8.2, 11.1): FALSE is 00, TRUE is FF
abbrev pub IsBoolean : List ℕ → Type 0
IsBoolean contents = (contents ≡ 0 ∷ []) ⊎ (contents ≡ 255 ∷ [])

-- INTEGER and ENUMERATED (8.3, 8.4): the first nine bits of two octets or more are not all equal
abbrev pub IsInteger : List ℕ → Type 0
IsInteger [] = ⊥
IsInteger (a ∷ []) = Unit {0}
IsInteger (a ∷ b ∷ octets) = ((a ≡ 0) × (b < 128) → ⊥) × ((a ≡ 255) × (128 ≤ b) → ⊥)

-- BIT STRING (8.6, 11.2): the number of unused bits, which are the low bits of the last octet, and are zero
abbrev pub IsBitString : List ℕ → Type 0
IsBitString [] = ⊥
IsBitString (unused ∷ bits) =
    (unused < 8) × (length bits ≡ 0 → unused ≡ 0) × (slice_index bits (length bits - 1) % (2 ^ unused) ≡ 0)

-- all octets of an arc but its last have bit 8 set, and no arc begins with 80
abbrev pub AreArcs : List ℕ → Type 0
AreArcs octets =
    (k : ℕ) → k < length octets → slice_index octets k ≡ 128 → (0 < k) × (128 ≤ slice_index octets (k - 1))

-- OBJECT IDENTIFIER (8.19)
abbrev pub IsObjectIdentifier : List ℕ → Type 0
IsObjectIdentifier octets = (0 < length octets) × (slice_index octets (length octets - 1) < 128) × AreArcs octets

-- the contents that a primitive identifier allows: any, unless a type is named here
abbrev pub IsContents : ℕ → List ℕ → Type 0
IsContents identifier contents =
    (identifier ≡ 1 → IsBoolean contents)
    × (identifier ≡ 2 → IsInteger contents)
    × (identifier ≡ 3 → IsBitString contents)
    × (identifier ≡ 5 → contents ≡ [])
    × (identifier ≡ 6 → IsObjectIdentifier contents)
    × (identifier ≡ 10 → IsInteger contents)
