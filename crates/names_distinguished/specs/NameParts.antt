-- What the octets of a name hold: attributes in sets, sets in a sequence, as they are compared.
use Rattle.std.specs.Prelude.{◌≡◌, ℕ, List, [], ◌∷◌, map, Result, Ok, Err, Bool, true, not, ◌&&◌, is_some, IsTrue}
use Rattle.asn.specs.Identifier.{is_constructed}
use Rattle.asn.specs.Place.{Place, tag, body}
use Rattle.asn.specs.Members.{members}
use Rattle.names_distinguished.specs.declared.fault.NameRule.{NameRule}
use Rattle.names_distinguished.specs.AttributeValue.{compared, Other}
use Rattle.names_distinguished.specs.DistinguishedName.{ComparedAttribute, RdnMap, rdn_map, value_at}
use Rattle.names_distinguished.specs.NameLayout.{AttributePlaces, attribute_members}

-- the places hold attributes
abbrev pub IsAttribute : Place → Type 0
IsAttribute place = (parts : AttributePlaces) × (attribute_members place ≡ Ok parts)

abbrev pub AreAttributes : List Place → Type 0
AreAttributes [] = Unit {0}
AreAttributes (place ∷ places) = IsAttribute place × AreAttributes places

-- type and value of the attribute at a place
abbrev pub entry_of_parts : AttributePlaces → ComparedAttribute
entry_of_parts parts = (body parts.kind, compared (tag parts.value) (body parts.value))

abbrev pub entry_in : Result AttributePlaces (NameRule × ℕ) → ComparedAttribute
entry_in (Ok parts) = entry_of_parts parts
entry_in (Err fault) = ([], Other [])

unfoldable pub entry_at : Place → ComparedAttribute
entry_at place = entry_in (attribute_members place)

-- no type stands there twice
unfoldable pub are_distinct : List ComparedAttribute → Bool
are_distinct [] = true
are_distinct (e ∷ es) = not (is_some (value_at e.0 es)) && are_distinct es

-- sets of attributes
abbrev pub IsRdn : Place → Type 0
IsRdn place = (is_constructed (tag place) ≡ true) × AreAttributes (members place).values × IsTrue (are_distinct (map entry_at (members place).values))

abbrev pub AreRdns : List Place → Type 0
AreRdns [] = Unit {0}
AreRdns (place ∷ places) = IsRdn place × AreRdns places

-- the entries of the set at a place, and those of all sets of the sequence at a place
abbrev pub entries_at : Place → List ComparedAttribute
entries_at place = map entry_at (members place).values

unfoldable pub map_at : Place → RdnMap
map_at place = rdn_map (entries_at place)

unfoldable pub rdns_at : Place → List RdnMap
rdns_at place = map map_at (members place).values
