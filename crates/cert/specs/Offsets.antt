-- The offset of a fault lies in the text, or is its end.
use Rattle.std.specs.Prelude.{◌≡◌, ◌≤◌, ℕ, List, length, Some, Ok, Err}
use Rattle.asn.specs.DerLaws.{AreOctets}
use Rattle.asn.specs.Part.{IsPartOf, IsEncoded}
use Rattle.asn.specs.Place.{Place}
use Rattle.names.specs.NameRule.{NameRule}
use Rattle.names.specs.NameLayout.{name}
use Rattle.names.specs.GeneralLayout.{general, base}
use Rattle.cert.specs.declared.fault.CertRule.{CertRule}
use Rattle.cert.specs.declared.extension_kind.ExtensionKind.{ExtensionKind}
use Rattle.cert.specs.ExtensionValues.{value_of}
use Rattle.cert.specs.Certificate.{Certificate, certificate}

-- a value stands in the text
pub record StandsIn (text : List ℕ) (value : Place) : Type 0 where
  pub octets : AreOctets text
  pub part : IsPartOf text value.at value.octets
  pub encoded : IsEncoded value.octets

-- a name (RFC 5280, 4.1.2.4)
abbrev pub NameFaultIsWithin : Type 0
NameFaultIsWithin =
    (text : List ℕ) (value : Place) (fault : NameRule) (at : ℕ) → StandsIn text value → name value ≡ Err (fault, at) → at ≤ length text

-- a general name (4.2.1.6), and the base of a subtree (4.2.1.10)
abbrev pub GeneralNameFaultIsWithin : Type 0
GeneralNameFaultIsWithin =
    (text : List ℕ) (value : Place) (fault : NameRule) (at : ℕ) → StandsIn text value → general value ≡ Err (fault, at) → at ≤ length text

abbrev pub SubtreeFaultIsWithin : Type 0
SubtreeFaultIsWithin =
    (text : List ℕ) (value : Place) (fault : NameRule) (at : ℕ) → StandsIn text value → base value ≡ Err (fault, at) → at ≤ length text

-- the values of the extensions of a certificate stand in it (4.2)
abbrev pub ExtensionValuesStand : Type 0
ExtensionValuesStand =
    (text : List ℕ) (read : Certificate) (kind : ExtensionKind) (value : Place) → AreOctets text → certificate text ≡ Ok read →
    value_of kind read.extensions.values ≡ Some value → StandsIn text value

-- a certificate (4.1)
abbrev pub CertificateFaultIsWithin : Type 0
CertificateFaultIsWithin =
    (text : List ℕ) (rule : CertRule) (at : ℕ) → AreOctets text → certificate text ≡ Err (rule, at) → at ≤ length text
