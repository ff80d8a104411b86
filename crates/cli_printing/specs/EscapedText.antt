-- Octets as text: those that print stand for themselves, except the separators of names; others are a backslash and two
-- hexadecimal digits.
use Rattle.std.specs.Prelude.{ℕ, ◌==◌, ◌&&◌, ◌||◌, Bool, not, nat_le, List, [], ◌∷◌, if◌then◌else◌}
use Rattle.std.specs.List.{flat_map}
use Rattle.hex.specs.Hex.{encode_lower}

-- backslash, slash, plus, equals sign, hash
abbrev pub is_separator : ℕ → Bool
is_separator octet = octet == 92 || octet == 47 || octet == 43 || octet == 61 || octet == 35

-- from the space to the tilde
abbrev pub prints_as_itself : ℕ → Bool
prints_as_itself octet = nat_le 32 octet && nat_le octet 126 && not (is_separator octet)

abbrev pub escaped_octet : ℕ → List ℕ
escaped_octet octet = if prints_as_itself octet then octet ∷ [] else 92 ∷ encode_lower (octet ∷ [])

abbrev pub escaped : List ℕ → List ℕ
escaped octets = flat_map escaped_octet octets

-- a space and the text, where there is any
abbrev pub spaced_text : List ℕ → List ℕ
spaced_text [] = []
spaced_text (octet ∷ octets) = 32 ∷ escaped (octet ∷ octets)
