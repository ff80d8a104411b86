-- Parts of a text, by offset and length.
use Rattle.std.specs.Prelude.{◌≡◌, ◌≤◌, ◌+◌, ℕ, List, slice_range, length}
use Rattle.asn.specs.Part.{IsPartOf}
use Rattle.asn.specs.declared.tlv.Tlv.{Tlv}
use Rattle.asn.specs.Place.{seen_tlv, body, body_place}
use Rattle.cert.specs.BitString.{bits_in}
use Rattle.relying_questions.specs.Places.{IsPlaceIn}
use Rattle.capi_values.specs.declared.part.Part.{Part}

-- where the part ends
abbrev pub part_end : Part → ℕ
part_end part = part.offset + part.length

-- the part of the text is these octets
pub record IsPart (text : List ℕ) (part : Part) (octets : List ℕ) : Type 0 where
  pub within : part_end part ≤ length text
  pub octets_are : slice_range text part.offset (part_end part) ≡ octets

-- in each text in which these octets stand at the offset, the part is these octets
abbrev pub IsPartAt : ℕ → List ℕ → Part → Type 0
IsPartAt offset octets part = (text : List ℕ) → IsPartOf text offset octets → IsPart text part octets

-- in each text in which the contents of the value stand, the part is these contents
abbrev pub IsContentsOf : Tlv → Part → Type 0
IsContentsOf value part =
    (text : List ℕ) → IsPlaceIn text (body_place (seen_tlv value)) → IsPart text part (body (seen_tlv value))

-- the same of the bits of a BIT STRING, behind the count of unused bits
abbrev pub IsBitsOf : Tlv → Part → Type 0
IsBitsOf value part =
    (text : List ℕ) → IsPlaceIn text (body_place (seen_tlv value)) → IsPart text part (bits_in (body (seen_tlv value)))
