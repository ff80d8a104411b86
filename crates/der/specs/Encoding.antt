-- Which octets are the encoding of which value (X.690, 8, 10 and 11).
use Rattle.std.specs.Prelude.{◌≡◌, ℕ, ◌+◌, ◌<◌, ◌≤◌, List, [], ◌∷◌, ◌++◌, length, true, false}
use Rattle.der.specs.Value.{Value, primitive, constructed, Values, none, more}
use Rattle.der.specs.Identifier.{is_refused, is_constructed}
use Rattle.der.specs.Contents.{IsContents}
use Rattle.der.specs.Length.{contents_limit, length_octets}

-- identifier octet, length octets, contents octets (8.1.1.1)
abbrev pub encoding_of : ℕ → List ℕ → List ℕ
encoding_of identifier contents = identifier ∷ length_octets (length contents) ++ contents

-- the deepest level at which a value may stand
abbrev pub deepest : ℕ
deepest = 32

abbrev mutual
  -- text is the encoding of the value, which stands at this depth
  pub EncodesAt : ℕ → List ℕ → Value → Type 0
  EncodesAt depth text (primitive identifier contents) =
      (depth ≤ deepest) × (is_refused identifier ≡ false) × (is_constructed identifier ≡ false)
      × IsContents identifier contents × (length contents < contents_limit) × (text ≡ encoding_of identifier contents)
  EncodesAt depth text (constructed identifier values) =
      (depth ≤ deepest) × (is_refused identifier ≡ false) × (is_constructed identifier ≡ true)
      × ((contents : List ℕ) × EncodesAllAt (depth + 1) contents values × (length contents < contents_limit) × (text ≡ encoding_of identifier contents))

  -- text is the encodings of the values, one after the other
  pub EncodesAllAt : ℕ → List ℕ → Values → Type 0
  EncodesAllAt depth text none = text ≡ []
  EncodesAllAt depth text (more value values) =
      (front : List ℕ) × (rest : List ℕ) × (text ≡ front ++ rest) × EncodesAt depth front value × EncodesAllAt depth rest values

-- text is DER, and its one value is this one
abbrev pub Encodes : List ℕ → Value → Type 0
Encodes text value = EncodesAt 1 text value
