-- How the members of a value, as places, are tied to the value that its octets are the encoding of.
use Rattle.std.specs.Prelude.{◌≡◌, ℕ, ℤ, ◌+◌, Bool, List, [], ◌∷◌, length, true, false}
use Rattle.der.specs.Value.{Value, Values, primitive, constructed, none, more}
use Rattle.der.specs.Identifier.{is_constructed}
use Rattle.der.specs.Length.{header_len}
use Rattle.der.specs.Encoding.{EncodesAt}
use Rattle.asn.specs.Part.{IsPartOf}
use Rattle.asn.specs.Place.{Place, tag, body, body_place}
use Rattle.asn.specs.Members.{members}
use Rattle.asn.specs.Time.{IsTime}

-- each place holds the encoding of the value beside it, and the places follow one another from this offset on
abbrev pub AreMembersAt : ℕ → ℕ → Values → List Place → Type 0
AreMembersAt depth at none [] = Unit {0}
AreMembersAt depth at none (place ∷ places) = ⊥
AreMembersAt depth at (more value values) [] = ⊥
AreMembersAt depth at (more value values) (place ∷ places) =
    (place.at ≡ at) × EncodesAt depth place.octets value × AreMembersAt depth (at + length place.octets) values places

-- what the words on a place say of the value: identifier, form, and contents or the members in order
abbrev pub IsValueAt : ℕ → Value → Place → Type 0
IsValueAt depth (primitive identifier contents) place =
    (tag place ≡ identifier) × (is_constructed identifier ≡ false) × (body place ≡ contents)
IsValueAt depth (constructed identifier values) place =
    (tag place ≡ identifier) × (is_constructed identifier ≡ true)
    × AreMembersAt (depth + 1) (place.at + header_len place.octets) values (members place).values
    × ((members place).end ≡ place.at + length place.octets)

-- a place that holds the encoding of a value
abbrev pub PlacesHoldValues : Type 0
PlacesHoldValues = (depth : ℕ) (value : Value) (place : Place) → EncodesAt depth place.octets value → IsValueAt depth value place

-- The same for laws of layouts, which look at no depth and no offset: the place holds the encoding of the value,
pub record IsEncodingOf (value : Value) (place : Place) : Type 0 where
  pub depth : ℕ
  pub encodes : EncodesAt depth place.octets value

-- and these places hold those of the values, one for one
abbrev pub HoldEach : Values → List Place → Type 0
HoldEach none [] = Unit {0}
HoldEach none (place ∷ places) = ⊥
HoldEach (more value values) [] = ⊥
HoldEach (more value values) (place ∷ places) = IsEncodingOf value place × HoldEach values places

pub record AreEncodingsOf (values : Values) (places : List Place) : Type 0 where
  pub each : HoldEach values places

-- at most one value
abbrev pub AtMostOneValue : Values → Type 0
AtMostOneValue none = Unit {0}
AtMostOneValue (more value none) = Unit {0}
AtMostOneValue (more value (more other values)) = ⊥

-- BOOLEAN DEFAULT FALSE: nothing, or TRUE (X.690, 11.1, 11.5)
abbrev pub IsDefaultFalse : List Place → Bool → Type 0
IsDefaultFalse [] flag = flag ≡ false
IsDefaultFalse (value ∷ []) flag = (tag value ≡ 0x01) × (body value ≡ 255 ∷ []) × (flag ≡ true)
IsDefaultFalse (value ∷ other ∷ values) flag = ⊥

abbrev pub with_default_false : Bool → Values → Values
with_default_false false values = values
with_default_false true values = more (primitive 0x01 (255 ∷ [])) values

-- the value is the time of that many seconds from 1970-01-01T00:00:00Z
pub record HasTimeLayout (value : Value) (seconds : ℤ) : Type 0 where
  pub identifier : ℕ
  pub contents : List ℕ
  pub form : value ≡ primitive identifier contents
  pub is_time : IsTime identifier contents seconds

-- the places hold parts of the source, at their offsets
abbrev pub AreParts : List ℕ → List Place → Type 0
AreParts source [] = Unit {0}
AreParts source (place ∷ places) = IsPartOf source place.at place.octets × AreParts source places

-- the members of a constructed value that is a part of a source are parts of the source
abbrev pub MembersAreParts : Type 0
MembersAreParts =
    (source : List ℕ) (depth identifier : ℕ) (values : Values) (place : Place) →
    IsPartOf source place.at place.octets → EncodesAt depth place.octets (constructed identifier values) →
    AreParts source (members place).values

-- and so are the contents of any value
abbrev pub ContentsArePart : Type 0
ContentsArePart =
    (source : List ℕ) (depth : ℕ) (value : Value) (place : Place) →
    IsPartOf source place.at place.octets → EncodesAt depth place.octets value →
    IsPartOf source (body_place place).at (body_place place).octets
