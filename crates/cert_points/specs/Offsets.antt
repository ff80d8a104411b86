-- Which faults are found in the distribution points of a certificate that was read, and where.
use Rattle.std.specs.Prelude.{◌≡◌, ◌⊎◌, ◌≤◌, ℕ, List, length, Err}
use Rattle.asn.specs.DerLaws.{AreOctets}
use Rattle.asn.specs.Place.{Place}
use Rattle.asn.specs.Rule.{Rule}
use Rattle.names.specs.NameRule.{NameRule}
use Rattle.cert.specs.declared.fault.CertRule.{CertRule}
use Rattle.cert.specs.declared.fault.CertRule.TheVariants.{Der, Name, ExtensionValue}
use Rattle.cert.specs.Certificate.{Certificate}
use Rattle.cert.specs.CertificateForms.{IsCertificate}
use Rattle.cert.specs.Offsets.{StandsIn}
use Rattle.cert_points.specs.PointName.{point_name}
use Rattle.cert_points.specs.PointReading.{certificate_points}

-- the value of the extension is not DER, does not have the layout of its type, or has a malformed general name
abbrev pub IsOfPoints : CertRule → Type 0
IsOfPoints rule =
    (rule ≡ ExtensionValue)
    ⊎ (((broken : Rule) × (rule ≡ Der broken)) ⊎ ((malformed : NameRule) × (rule ≡ Name malformed)))

-- The offset is that of an octet of the certificate, or of its end.
abbrev pub PointFaultIsOfValue : Type 0
PointFaultIsOfValue =
    (octets : List ℕ) (certificate : Certificate) (rule : CertRule) (at : ℕ) →
    AreOctets octets → IsCertificate octets certificate →
    certificate_points certificate.extensions.values ≡ Err (rule, at) → IsOfPoints rule × (at ≤ length octets)

-- the same of the name of a point by itself, wherever it stands: also in a list's issuingDistributionPoint (5.2.5)
abbrev pub PointNameFaultIsWithin : Type 0
PointNameFaultIsWithin =
    (text : List ℕ) (value : Place) (rule : CertRule) (at : ℕ) →
    StandsIn text value → point_name value ≡ Err (rule, at) → IsOfPoints rule × (at ≤ length text)
