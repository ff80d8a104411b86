-- Distinguished names as text: a slash before each RDN, a plus between its attributes, each `OID=VALUE`.
use Rattle.std.specs.Prelude.{ℕ, Bool, List, [], ◌∷◌, ◌++◌, codes, if◌then◌else◌}
use Rattle.std.specs.List.{flat_map}
use Rattle.hex.specs.Hex.{encode_lower}
use Rattle.asn.specs.Identifier.{is_constructed}
use Rattle.asn.specs.Place.{Place, tag, body}
use Rattle.asn.specs.Members.{members}
use Rattle.names.specs.AttributeValue.{is_text}
use Rattle.cli_printing.specs.EscapedText.{escaped}
use Rattle.cli_printing.specs.OidText.{oid_text}

-- the values inside a value; a primitive one has none
abbrev pub inner_of : Bool → Place → List Place
inner_of constructed value = if constructed then (members value).values else []

abbrev pub inner : Place → List Place
inner value = inner_of (is_constructed (tag value)) value

-- the text of a UTF8String, PrintableString or IA5String, or for another value all its octets
abbrev pub value_text : Place → List ℕ
value_text value = if is_text (tag value) then escaped (body value) else 35 ∷ encode_lower value.octets

-- AttributeTypeAndValue ::= SEQUENCE { type OBJECT IDENTIFIER, value ANY }
abbrev pub attribute_text_of : List Place → List ℕ
attribute_text_of [] = []
attribute_text_of (kind ∷ []) = []
attribute_text_of (kind ∷ value ∷ others) = oid_text (body kind) ++ 61 ∷ value_text value

abbrev pub attribute_text : Place → List ℕ
attribute_text attribute = attribute_text_of (inner attribute)

-- RelativeDistinguishedName ::= SET OF AttributeTypeAndValue
abbrev pub next_attribute_text : Place → List ℕ
next_attribute_text attribute = 43 ∷ attribute_text attribute

abbrev pub attributes_text : List Place → List ℕ
attributes_text [] = []
attributes_text (first ∷ others) = attribute_text first ++ flat_map next_attribute_text others

abbrev pub rdn_text : Place → List ℕ
rdn_text rdn = 47 ∷ attributes_text (inner rdn)

-- Name ::= SEQUENCE OF RelativeDistinguishedName; the empty one is a hyphen
abbrev pub rdns_text : List Place → List ℕ
rdns_text [] = codes "-"
rdns_text (first ∷ others) = flat_map rdn_text (first ∷ others)

-- the name that has this encoding
unfoldable pub name_text : List ℕ → List ℕ
name_text octets = rdns_text (members (record { octets = octets; at = 0 })).values
