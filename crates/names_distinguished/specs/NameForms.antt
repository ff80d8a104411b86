-- Names by their layout (RFC 5280, 4.1.2.4; X.501, 9.2 and 9.3), as places and as values.
use Rattle.std.specs.Prelude.{◌≡◌, ◌≢◌, ◌↔◌, ℕ, List, [], ◌∷◌, map, All, AllPairs, Ok, IsUtf8, IsAscii, IsSortedByKey}
use Rattle.std.specs.Ordering.{nat_cmp}
use Rattle.std.specs.Cmp.Lexicographic.{slice_cmp}
use Rattle.asn.specs.Value.{Value, primitive, constructed, none, more}
use Rattle.asn.specs.Encoding.{EncodesAt}
use Rattle.asn.specs.Place.{Place, tag, body}
use Rattle.asn.specs.Members.{members}
use Rattle.asn.specs.ListLayout.{values_of}
use Rattle.asn.specs.Size.{octets_of}
use Rattle.names_distinguished.specs.NameLayout.{name}

-- the contents are a string of the type that the identifier names; of a PrintableString only that is asked for which holds of
-- an IA5String, and the contents of other types are free
pub record IsStringOf (identifier : ℕ) (contents : List ℕ) : Type 0 where
  -- UTF8String (X.690, 8.23)
  pub utf8 : identifier ≡ 12 → IsUtf8 contents
  -- PrintableString and IA5String (X.690, 8.23)
  pub printable : identifier ≡ 19 → IsAscii contents
  pub ia5 : identifier ≡ 22 → IsAscii contents

-- AttributeTypeAndValue ::= SEQUENCE { type OBJECT IDENTIFIER, value ANY } (RFC 5280, 4.1.2.4)
pub record IsAttributeAt (place : Place) : Type 0 where
  pub kind : Place
  pub value : Place
  -- SEQUENCE (X.690, 8.9) of two values
  pub sequence : tag place ≡ 0x30
  pub members_are : (members place).values ≡ kind ∷ value ∷ []
  -- OBJECT IDENTIFIER (X.690, 8.19)
  pub identifier : tag kind ≡ 0x06
  pub string : IsStringOf (tag value) (body value)

-- attributes at these places have different types
abbrev pub HaveOtherTypes : Place → Place → Type 0
HaveOtherTypes one other = (first : IsAttributeAt one) (second : IsAttributeAt other) → body first.kind ≢ body second.kind

-- RelativeDistinguishedName ::= SET SIZE (1..MAX) OF AttributeTypeAndValue (RFC 5280, 4.1.2.4)
pub record IsRdnAt (place : Place) : Type 0 where
  -- SET OF (X.690, 8.12), of at least one
  pub set : tag place ≡ 0x31
  pub some : (members place).values ≢ []
  pub attributes : All IsAttributeAt (members place).values
  -- no two of one type (X.501, 9.3)
  pub types : AllPairs HaveOtherTypes (members place).values
  -- the encodings ascend (X.690, 11.6): none is less than the one before it
  pub order : IsSortedByKey (λ attribute. attribute.octets) (slice_cmp nat_cmp) (members place).values

-- Name ::= CHOICE { rdnSequence SEQUENCE OF RelativeDistinguishedName } (RFC 5280, 4.1.2.4)
pub record IsName (place : Place) : Type 0 where
  -- SEQUENCE OF (X.690, 8.10)
  pub sequence : tag place ≡ 0x30
  pub rdns : All IsRdnAt (members place).values

-- a place is read as a name exactly where it is one
abbrev pub NameIsExact : Type 0
NameIsExact = (place : Place) → (name place ≡ Ok tt) ↔ IsName place

-- The same of a value: an attribute by the contents of its type and by its value,
pub record NameAttribute : Type 0 where
  pub kind : List ℕ
  pub value : Value

abbrev pub attribute_of : NameAttribute → Value
attribute_of attribute = constructed 0x30 (more (primitive 0x06 attribute.kind) (more attribute.value none))

-- an RDN by its attributes, and a name by its RDNs
abbrev pub rdn_of : List NameAttribute → Value
rdn_of attributes = constructed 0x31 (values_of (map attribute_of attributes))

abbrev pub name_of : List (List NameAttribute) → Value
name_of rdns = constructed 0x30 (values_of (map rdn_of rdns))

-- the value of an attribute is a string of its type (a constructed one is of a type that is free)
abbrev pub HoldsString : Value → Type 0
HoldsString (primitive identifier contents) = IsStringOf identifier contents
HoldsString (constructed identifier values) = Unit {0}

-- the attributes are those of an RDN: at least one, strings of their types, no two of one type (X.501, 9.3), the encodings
-- ascending (X.690, 11.6)
pub record AreAnRdn (attributes : List NameAttribute) : Type 0 where
  pub some : attributes ≢ []
  pub strings : All (λ attribute. HoldsString attribute.value) attributes
  pub types : AllPairs (λ one other. one.kind ≢ other.kind) attributes
  pub order : IsSortedByKey (λ attribute. octets_of (attribute_of attribute)) (slice_cmp nat_cmp) attributes

-- the value is the name of these RDNs
pub record HasNameLayout (value : Value) (rdns : List (List NameAttribute)) : Type 0 where
  pub layout : value ≡ name_of rdns
  pub each : All AreAnRdn rdns

-- the encoding of a value is read as a name exactly where the value has the layout of one
abbrev pub NameHasLayout : Type 0
NameHasLayout =
    (depth : ℕ) (value : Value) (place : Place) →
    EncodesAt depth place.octets value →
    (name place ≡ Ok tt) ↔ ((rdns : List (List NameAttribute)) × HasNameLayout value rdns)
