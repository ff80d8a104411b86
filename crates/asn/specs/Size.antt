-- The one encoding of a value that has one, and how many octets it has.
use Rattle.std.specs.Prelude.{◌≡◌, ◌↔◌, ℕ, suc, ◌+◌, ◌<◌, ◌≤◌, List, [], ◌++◌, length, true, false}
use Rattle.der.specs.Value.{Value, primitive, constructed, Values, none, more}
use Rattle.der.specs.Identifier.{is_refused, is_constructed}
use Rattle.der.specs.Contents.{IsContents}
use Rattle.der.specs.Length.{contents_limit, length_octets}
use Rattle.der.specs.Encoding.{encoding_of, deepest, EncodesAt, EncodesAllAt}

-- how many octets an encoding with so many contents octets has
abbrev pub size_around : ℕ → ℕ
size_around contents = suc (length (length_octets contents)) + contents

-- how many octets the encodings of values have
abbrev mutual
  pub size_of : Value → ℕ
  size_of (primitive identifier contents) = size_around (length contents)
  size_of (constructed identifier values) = size_around (size_of_all values)

  pub size_of_all : Values → ℕ
  size_of_all none = 0
  size_of_all (more value values) = size_of value + size_of_all values

-- the octets that a value's identifier, form and contents ask for
abbrev mutual
  pub octets_of : Value → List ℕ
  octets_of (primitive identifier contents) = encoding_of identifier contents
  octets_of (constructed identifier values) = encoding_of identifier (octets_of_all values)

  pub octets_of_all : Values → List ℕ
  octets_of_all none = []
  octets_of_all (more value values) = octets_of value ++ octets_of_all values

-- a constructed value may stand at this depth under this identifier
abbrev pub IsHolder : ℕ → ℕ → Type 0
IsHolder depth identifier = (depth ≤ deepest) × (is_refused identifier ≡ false) × (is_constructed identifier ≡ true)

-- what a value has to meet, at this depth, so that these octets are its encoding
abbrev mutual
  pub IsEncodableAt : ℕ → Value → Type 0
  IsEncodableAt depth (primitive identifier contents) =
      (depth ≤ deepest) × (is_refused identifier ≡ false) × (is_constructed identifier ≡ false)
      × IsContents identifier contents × (length contents < contents_limit)
  IsEncodableAt depth (constructed identifier values) =
      IsHolder depth identifier × AreEncodableAt (depth + 1) values × (size_of_all values < contents_limit)

  pub AreEncodableAt : ℕ → Values → Type 0
  AreEncodableAt depth none = Unit {0}
  AreEncodableAt depth (more value values) = IsEncodableAt depth value × AreEncodableAt depth values

-- an encoding has that many octets
abbrev pub EncodingHasSize : Type 0
EncodingHasSize = (depth : ℕ) (text : List ℕ) (value : Value) → EncodesAt depth text value → length text ≡ size_of value

abbrev pub EncodingsHaveSize : Type 0
EncodingsHaveSize = (depth : ℕ) (text : List ℕ) (values : Values) → EncodesAllAt depth text values → length text ≡ size_of_all values

-- octets are the encoding of a value exactly where it has one and they are its octets: what is encoded is read back, and what
-- is read is encoded to the octets it was read from
abbrev pub EncodingIsOctets : Type 0
EncodingIsOctets =
    (depth : ℕ) (text : List ℕ) (value : Value) →
    EncodesAt depth text value ↔ (IsEncodableAt depth value × (text ≡ octets_of value))
