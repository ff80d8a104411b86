-- GeneralNames (RFC 5280, 4.2.1.6): SEQUENCE SIZE (1..MAX) OF GeneralName. A name is told by the octets of its
-- whole encoding: two are the same name if these are.
use Rattle.std.specs.Prelude.{◌≡◌, ◌<◌, ◌↔◌, ℕ, true, List, length, map, Result, Ok}
use Rattle.std.specs.List.{AllZip}
use Rattle.std.specs.Borrow.{Bor}
use Rattle.std.specs.Global.{Vec}
use Rattle.asn.specs.Identifier.{is_constructed}
use Rattle.asn.specs.Place.{Place, tag}
use Rattle.asn.specs.Members.{Members, members, left, octets_of_each}
use Rattle.asn.specs.Walk.{◌>>=◌, check_that, some, each}
use Rattle.names.specs.GeneralLayout.{GeneralName, general}
use Rattle.names.specs.GeneralForms.{IsGeneralName}
use Rattle.cert.specs.Fault.{as_name}
use Rattle.cert.specs.declared.fault.CertRule.{CertRule}
use Rattle.cert.specs.declared.fault.CertRule.TheVariants.{ExtensionValue}
use Rattle.cert_points.specs.declared.general_names.GeneralNames as code

abbrev pub seen_general_names : code.GeneralNames → List (List ℕ)
seen_general_names read = octets_of_each (left read.members).values

-- the octets that were gathered
abbrev pub octets_of : Vec (Bor (List ℕ)) → List (List ℕ)
octets_of names = map (λ name. name.now) names.items

-- the value is a general name, behind others
unfoldable pub any_general_name : Unit {0} → Place → Result (Unit {0}) (CertRule × ℕ)
any_general_name earlier value = as_name (general value) >>= λ said. Ok tt

-- the values in a value, which is constructed
unfoldable pub constructed_members : Place → Result Members (CertRule × ℕ)
constructed_members value = do
  form ← check_that (is_constructed (tag value)) ExtensionValue value.at
  Ok (members value)

-- The checks in their order, under an implicit tag.
unfoldable pub general_names : Place → Result (List (List ℕ)) (CertRule × ℕ)
general_names value = do
  left ← constructed_members value
  one ← some ExtensionValue left
  all ← each any_general_name tt left.values
  Ok (octets_of_each left.values)

-- The value is a general name with these octets.
pub record IsNameWithOctets (value : Place) (name : List ℕ) : Type 0 where
  pub octets : value.octets ≡ name
  pub said : GeneralName
  pub is_name : IsGeneralName value said

-- The value is constructed, and holds these general names, one for one; there is one.
pub record AreGeneralNames (value : Place) (names : List (List ℕ)) : Type 0 where
  pub form : is_constructed (tag value) ≡ true
  pub some : 0 < length names
  pub each : AllZip IsNameWithOctets (members value).values names

abbrev pub GeneralNamesAreExact : Type 0
GeneralNamesAreExact =
    (value : Place) (names : List (List ℕ)) →
    (general_names value ≡ Ok names) ↔ AreGeneralNames value names
