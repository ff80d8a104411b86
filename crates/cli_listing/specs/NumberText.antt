-- Numbers of lists as text: the contents octets of the shortest INTEGER (X.690, 8.3.2), in hexadecimal.
use Rattle.std.specs.Prelude.{ℕ, ◌==◌, ◌&&◌, nat_lt, List, [], ◌∷◌, if◌then◌else◌}
use Rattle.hex.specs.Hex.{encode_lower}
use Rattle.asn.specs.NumberLaws.{number_octets}

-- without the octets of zeros at the front that an INTEGER does not need
abbrev pub shortest : List ℕ → List ℕ
shortest [] = []
shortest (octet ∷ []) = octet ∷ []
shortest (octet ∷ next ∷ octets) = if (octet == 0) && nat_lt next 128 then shortest (next ∷ octets) else octet ∷ next ∷ octets

-- a number in twenty octets is not negative, and so may need one octet of zeros
abbrev pub number_text : ℕ → List ℕ
number_text number = encode_lower (shortest (0 ∷ number_octets 20 number))
