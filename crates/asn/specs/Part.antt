-- Parts of a text, and the octets that are the encoding of some value.
use Rattle.std.specs.Prelude.{◌≡◌, ℕ, List, ◌++◌, length}
use Rattle.der.specs.Value.{Value, Values}
use Rattle.der.specs.Encoding.{EncodesAt, EncodesAllAt, Encodes}
use Rattle.der.specs.Length.{contents_of}

-- the part stands in the source at this offset
pub record IsPartOf (source : List ℕ) (at : ℕ) (part : List ℕ) : Type 0 where
  pub before : List ℕ
  pub behind : List ℕ
  pub joined : source ≡ before ++ part ++ behind
  pub place : length before ≡ at

-- the text is the encoding of a value, at some depth
abbrev pub IsEncoded : List ℕ → Type 0
IsEncoded text = (depth : ℕ) × (value : Value) × EncodesAt depth text value

-- the text is the encoding of an outermost value
abbrev pub IsWhole : List ℕ → Type 0
IsWhole text = (value : Value) × Encodes text value

-- the text is the encodings of values, one after the other
abbrev pub AreEncoded : List ℕ → Type 0
AreEncoded text = (depth : ℕ) × (values : Values) × EncodesAllAt depth text values

-- the contents octets of a value: the same as `contents_of`, as a word that doesn't unfold
unfoldable pub contents : List ℕ → List ℕ
contents text = contents_of text

-- the text begins with such an encoding
abbrev pub BeginsEncoded : List ℕ → Type 0
BeginsEncoded text =
    (depth : ℕ) × (value : Value) × (front : List ℕ) × (rest : List ℕ) × (text ≡ front ++ rest) × EncodesAt depth front value
