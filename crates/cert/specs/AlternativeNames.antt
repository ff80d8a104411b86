-- subjectAltName (RFC 5280, 4.2.1.6): SEQUENCE SIZE (1..MAX) OF GeneralName
use Rattle.std.specs.Prelude.{◌≡◌, ◌<◌, ◌≤◌, ◌↔◌, ℕ, List, [], ◌∷◌, ◌++◌, length, map, is_some, Result, Ok}
use Rattle.std.specs.Global.{Vec}
use Rattle.names.specs.declared.general.General.{General}
use Rattle.names.specs.GeneralView.{general_name}
use Rattle.std.specs.List.{AllZip}
use Rattle.asn.specs.DerLaws.{AreOctets}
use Rattle.asn.specs.Part.{IsWhole}
use Rattle.asn.specs.Place.{Place, seen_tlv, tag, body, body_place}
use Rattle.asn.specs.Members.{Members, members}
use Rattle.asn.specs.Walk.{◌>>=◌, check_that, is_a, some, each}
use Rattle.asn.specs.Outermost.{nested}
use Rattle.names.specs.NameRule.TheVariants.{NameLayout}
use Rattle.names.specs.GeneralLayout.{GeneralName, form_of_identifier, general}
use Rattle.names.specs.GeneralForms.{IsGeneralName}
use Rattle.cert.specs.Fault.{as_der, as_name, GivesUnlessFull}
use Rattle.cert.specs.declared.fault.CertFault.{CertFault}
use Rattle.asn.specs.declared.tlv.Tlv.{Tlv}
use Rattle.cert.specs.Limit.{has_room}
use Rattle.cert.specs.declared.fault.CertRule.{CertRule}
use Rattle.cert.specs.declared.fault.CertRule.TheVariants.{Name, ExtensionValue}

-- the value has the identifier of a general name
unfoldable pub has_name_form : Place → Result (Unit {0}) (CertRule × ℕ)
has_name_form value = check_that (is_some (form_of_identifier (tag value))) (Name NameLayout) value.at

-- the names, with one more
unfoldable pub one_more_name : List GeneralName → Place → Result (List GeneralName) (CertRule × ℕ)
one_more_name earlier value = do
  form ← has_name_form value
  room ← has_room 4096 (length earlier) value.at
  name ← as_name (general value)
  Ok (earlier ++ name ∷ [])

-- The checks in their order.
unfoldable pub alternative_names : Place → Result (List GeneralName) (CertRule × ℕ)
alternative_names octet_string = do
  value ← as_der (nested octet_string)
  sequence ← is_a 0x30 ExtensionValue value
  one ← some ExtensionValue (members value)
  each one_more_name [] ((members value).values)

-- The contents of the OCTET STRING are a SEQUENCE of these general names, one for one; there is one, and no more than are
-- served.
pub record AreAlternativeNames (octet_string : Place) (names : List GeneralName) : Type 0 where
  pub whole : IsWhole (body octet_string)
  pub sequence : tag (body_place octet_string) ≡ 0x30
  pub some : 0 < length names
  pub served : length names ≤ 4096
  pub each : AllZip IsGeneralName (members (body_place octet_string)).values names

abbrev pub AlternativeNamesAreExact : Type 0
AlternativeNamesAreExact =
    (octet_string : Place) (names : List GeneralName) → AreOctets (body octet_string) →
    (alternative_names octet_string ≡ Ok names) ↔ AreAlternativeNames octet_string names

abbrev pub seen_names : Vec General → List GeneralName
seen_names names = map general_name names.items

-- all names, in order
abbrev pub all_names : Members → Result (List GeneralName) (CertRule × ℕ)
all_names left = each one_more_name [] left.values

-- The names before and after one more is read.
abbrev pub AddsName : Tlv → Vec General → Vec General → Result (Unit {0}) CertFault → Type 0
AddsName value old new result = GivesUnlessFull (λ _. seen_names new) result (one_more_name (seen_names old) (seen_tlv value))
