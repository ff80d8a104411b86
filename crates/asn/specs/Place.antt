-- Octets with their offset in the whole input, and the values that stand in them one after the other.
use Rattle.std.specs.Prelude.{◌≡◌, ℕ, zero, suc, ◌+◌, ◌<◌, Bool, true, false, List, [], ◌∷◌, ◌++◌, length, slice_index, take, drop, if◌then◌else◌}
use Rattle.der.specs.Length.{header_len, end_of, contents_of}
use Rattle.asn.specs.Part.{contents}
use Rattle.asn.specs.declared.tlv.Tlv.{Tlv}
use Rattle.asn.specs.declared.tlv.Cursor.{Cursor}

pub record Place : Type 0 where
  pub octets : List ℕ
  pub at : ℕ

-- where a value stands
abbrev pub seen_tlv : Tlv → Place
seen_tlv tlv = record { octets = tlv.whole.now; at = tlv.at }

-- where the values stand that a cursor has left
abbrev pub remaining : Cursor → Place
remaining cursor = record { octets = cursor.octets.now; at = cursor.at }

-- octets that stand at this offset
abbrev pub text_at : List ℕ → ℕ → Place
text_at octets at = record { octets = octets; at = at }

-- octets that stand behind a value, which stands at this offset
abbrev pub text_behind : ℕ → Tlv → List ℕ → Place
text_behind at tlv others = record { octets = others; at = at + length tlv.whole.now }

-- how many octets a cursor has left
abbrev pub octets_left : Cursor → ℕ
octets_left cursor = length (remaining cursor).octets

-- the identifier octet, and the contents octets, of a value
abbrev pub tag : Place → ℕ
tag value = slice_index value.octets 0

abbrev pub body : Place → List ℕ
body value = contents value.octets

-- where the contents of a value stand
unfoldable pub body_place : Place → Place
body_place value = record { octets = contents_of value.octets; at = value.at + header_len value.octets }

-- The words below speak of a text of values, one after the other: whether there is none, the first, those behind it.
abbrev pub is_empty : List ℕ → Bool
is_empty [] = true
is_empty (octet ∷ octets) = false

unfoldable pub ends : Place → Bool
ends text = is_empty text.octets

unfoldable pub front : Place → Place
front text = record { octets = take (end_of text.octets) text.octets; at = text.at }

unfoldable pub behind : Place → Place
behind text = record { octets = drop (end_of text.octets) text.octets; at = text.at + end_of text.octets }

-- The values of the text in order. Each has an octet at least, so that there are at most as many as octets.
abbrev pub parts : ℕ → Place → List Place
parts zero text = []
parts (suc most) text = if ends text then [] else front text ∷ parts most (behind text)

unfoldable pub values : Place → List Place
values text = parts (length text.octets) text

-- a text is a value, of one octet at least, and the rest behind it
pub record Splits (text value rest : Place) : Type 0 where
  pub octets : text.octets ≡ value.octets ++ rest.octets
  pub some : 0 < length value.octets
  pub value_at : value.at ≡ text.at
  pub rest_at : rest.at ≡ text.at + length value.octets

-- what a cursor had left is a value and what it has left then
abbrev pub SplitsOff : Cursor → Cursor → Tlv → Type 0
SplitsOff old new tlv = Splits (remaining old) (seen_tlv tlv) (remaining new)

-- octets that stand at this offset are a value and the others behind it
abbrev pub SplitsAt : ℕ → List ℕ → Tlv → List ℕ → Type 0
SplitsAt at octets tlv others = Splits (text_at octets at) (seen_tlv tlv) (text_behind at tlv others)
