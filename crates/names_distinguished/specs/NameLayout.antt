-- How a name is read, from left to right, with the first fault and its place (RFC 5280, 4.1.2.4).
use Rattle.std.specs.Prelude.{ℕ, ◌==◌, ◌||◌, Bool, true, false, not, List, [], ◌∷◌, Result, Ok, Err, if◌then◌else◌}
use Rattle.std.specs.List.{list_all}
use Rattle.std.specs.Str.{bytes_eq, is_utf8}
use Rattle.std.specs.Char.{is_ascii}
use Rattle.std.specs.Ordering.{nat_cmp, is_lt}
use Rattle.std.specs.Cmp.Lexicographic.{slice_cmp}
use Rattle.asn.specs.Place.{Place, tag, body}
use Rattle.asn.specs.Members.{members}
use Rattle.asn.specs.Walk.{◌>>=◌, is_a, required, next_or, ended, some, check_that, each}
use Rattle.names_distinguished.specs.declared.fault.NameRule.{NameRule}
use Rattle.names_distinguished.specs.declared.fault.NameRule.TheVariants.{NameLayout, RdnRepeat, SetOrder, Text}

-- where the type and the value of an attribute stand
pub record AttributePlaces : Type 0 where
  pub kind : Place
  pub value : Place

-- AttributeTypeAndValue ::= SEQUENCE { type OBJECT IDENTIFIER, value ANY }
unfoldable pub attribute_members : Place → Result AttributePlaces (NameRule × ℕ)
attribute_members place = do
  sequence ← is_a 0x30 NameLayout place
  kind ← required 6 NameLayout (members place)
  value ← next_or NameLayout kind.1
  done ← ended NameLayout value.1
  Ok (record { kind = kind.0; value = value.0 })

-- the attribute at this place has the type
abbrev pub has_kind_in : List ℕ → Result AttributePlaces (NameRule × ℕ) → Bool
has_kind_in kind (Ok attribute) = bytes_eq (body attribute.kind) kind
has_kind_in kind (Err fault) = false

unfoldable pub has_kind : List ℕ → Place → Bool
has_kind kind place = has_kind_in kind (attribute_members place)

-- of the attributes that stand before this offset, one has the type
abbrev pub has_kind_before : List ℕ → ℕ → List Place → Bool
has_kind_before kind at [] = false
has_kind_before kind at (place ∷ places) =
    if place.at == at then false else (has_kind kind place || has_kind_before kind at places)

-- octets in the order of a SET OF (X.690, 11.6); of encodings none begins another
abbrev pub is_less : List ℕ → List ℕ → Bool
is_less left right = is_lt (slice_cmp nat_cmp left right)

-- octets that a string of the type holds: PrintableString (19) and IA5String (22) up to 127, UTF8String (12) UTF-8
unfoldable pub is_string : ℕ → List ℕ → Bool
is_string identifier contents =
    if identifier == 12 then is_utf8 contents
    else (if identifier == 19 || identifier == 22 then list_all is_ascii contents else true)

-- an attribute of this type stands in its order: no earlier one has the type, and its octets are not less than those of the
-- one before
unfoldable pub attribute_order : List Place → List ℕ → List ℕ → Place → Result (Unit {0}) (NameRule × ℕ)
attribute_order all before kind place = do
  new ← check_that (not (has_kind_before kind place.at all)) RdnRepeat place.at
  check_that (not (is_less place.octets before)) SetOrder place.at

-- an attribute of an RDN, behind one with those octets (none for the first), and its own octets
unfoldable pub attribute : List Place → List ℕ → Place → Result (List ℕ) (NameRule × ℕ)
attribute all before place = do
  parts ← attribute_members place
  ordered ← attribute_order all before (body parts.kind) place
  string ← check_that (is_string (tag parts.value) (body parts.value)) Text parts.value.at
  Ok place.octets

-- the only attribute of an RDN: none is there that it could repeat or come before
unfoldable pub only_attribute : Place → Result (Unit {0}) (NameRule × ℕ)
only_attribute place = do
  parts ← attribute_members place
  check_that (is_string (tag parts.value) (body parts.value)) Text parts.value.at

-- the attributes of an RDN, in order
unfoldable pub attributes : List Place → Result (Unit {0}) (NameRule × ℕ)
attributes all = each (attribute all) [] all >>= λ last. Ok tt

-- RelativeDistinguishedName ::= SET SIZE (1..MAX) OF AttributeTypeAndValue
unfoldable pub rdn : Place → Result (Unit {0}) (NameRule × ℕ)
rdn place = do
  set ← is_a 0x31 NameLayout place
  one ← some NameLayout (members place)
  attributes ((members place).values)

-- a walk over RDNs
abbrev pub one_more_rdn : Unit {0} → Place → Result (Unit {0}) (NameRule × ℕ)
one_more_rdn earlier place = rdn place

-- Name ::= CHOICE { rdnSequence SEQUENCE OF RelativeDistinguishedName }
unfoldable pub name : Place → Result (Unit {0}) (NameRule × ℕ)
name place = do
  sequence ← is_a 0x30 NameLayout place
  each one_more_rdn tt ((members place).values)
