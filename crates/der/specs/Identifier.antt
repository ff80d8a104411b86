-- Identifier octets (X.690, 8.1.2): the class in bits 8 and 7, the constructed flag in bit 6, the tag number below.
use Rattle.std.specs.Prelude.{ℕ, ◌/◌, ◌%◌, ◌==◌, nat_lt, Bool, ◌&&◌, ◌||◌, if◌then◌else◌, List, [], ◌∷◌}
use Rattle.std.specs.List.{list_any}

abbrev pub tag_number : ℕ → ℕ
tag_number identifier = identifier % 32

abbrev pub is_universal : ℕ → Bool
is_universal identifier = nat_lt identifier 64

abbrev pub is_constructed : ℕ → Bool
is_constructed identifier = (identifier / 32) % 2 == 1

-- BOOLEAN, INTEGER, BIT STRING, OCTET STRING, NULL, OBJECT IDENTIFIER, ENUMERATED, UTF8String, PrintableString,
-- TeletexString, IA5String, UTCTime, GeneralizedTime, UniversalString and BMPString (10.2; 8.2 to 8.8, 8.19)
abbrev pub primitive_types : List ℕ
primitive_types = 1 ∷ 2 ∷ 3 ∷ 4 ∷ 5 ∷ 6 ∷ 10 ∷ 12 ∷ 19 ∷ 20 ∷ 22 ∷ 23 ∷ 24 ∷ 28 ∷ 30 ∷ []

-- SEQUENCE and SET (8.9 to 8.12)
abbrev pub constructed_types : List ℕ
constructed_types = 16 ∷ 17 ∷ []

abbrev pub is_among : ℕ → List ℕ → Bool
is_among number numbers = list_any (λ other. number == other) numbers

-- the flag is the wrong one for a universal type
abbrev pub has_wrong_form : ℕ → Bool
has_wrong_form identifier =
    if is_constructed identifier then is_among (tag_number identifier) primitive_types
    else is_among (tag_number identifier) constructed_types

-- a high tag number (8.1.2.4), universal 0, or a universal type in the wrong form
abbrev pub is_refused : ℕ → Bool
is_refused identifier =
    tag_number identifier == 31
    || (is_universal identifier && (tag_number identifier == 0 || has_wrong_form identifier))
