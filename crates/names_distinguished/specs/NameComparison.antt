-- What a name is compared by, in the words of its layout (RFC 5280, 4.1.2.4 and 7.1).
use Rattle.std.specs.Prelude.{◌≡◌, ℕ, List, map}
use Rattle.asn.specs.Value.{Value, primitive, constructed}
use Rattle.asn.specs.Encoding.{EncodesAt}
use Rattle.asn.specs.Size.{octets_of_all}
use Rattle.asn.specs.Place.{Place}
use Rattle.names_distinguished.specs.AttributeValue.{ComparedValue, compared}
use Rattle.names_distinguished.specs.DistinguishedName.{ComparedAttribute, RdnMap, rdn_map}
use Rattle.names_distinguished.specs.NameParts.{rdns_at}
use Rattle.names_distinguished.specs.NameForms.{NameAttribute, HasNameLayout}

-- a value by its own identifier and contents; those of a constructed one are the encodings of the values inside
abbrev pub compared_as : Value → ComparedValue
compared_as (primitive identifier contents) = compared identifier contents
compared_as (constructed identifier values) = compared identifier (octets_of_all values)

-- an attribute by its type and that value
abbrev pub entry_of_attribute : NameAttribute → ComparedAttribute
entry_of_attribute attribute = (attribute.kind, compared_as attribute.value)

-- an RDN by the set of its attributes
abbrev pub set_of : List NameAttribute → RdnMap
set_of attributes = rdn_map (map entry_of_attribute attributes)

-- octets that have the layout of a name of these RDNs are compared as the sets of just their attributes
abbrev pub NameIsComparedByLayout : Type 0
NameIsComparedByLayout =
    (depth : ℕ) (value : Value) (place : Place) (rdns : List (List NameAttribute)) →
    EncodesAt depth place.octets value → HasNameLayout value rdns → rdns_at place ≡ map set_of rdns
