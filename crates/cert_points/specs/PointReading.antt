-- How the distribution points of a certificate are read from the value of their extension.
use Rattle.std.specs.Prelude.{◌≡◌, ◌↔◌, ℕ, List, Option, Some, None, Result, Ok}
use Rattle.asn.specs.DerLaws.{AreOctets}
use Rattle.asn.specs.Place.{Place}
use Rattle.asn.specs.Walk.{◌>>=◌, seen}
use Rattle.cert.specs.declared.fault.CertRule.{CertRule}
use Rattle.cert.specs.Certificate.{Certificate}
use Rattle.cert.specs.CertificateForms.{IsCertificate}
use Rattle.cert.specs.ExtensionValues.{ExtensionValues, SaysIfThere, read_if_there}
use Rattle.cert_points.specs.declared.points.DistributionPoints as code
use Rattle.cert_points.specs.DistributionPoint.{DistributionPoint}
use Rattle.cert_points.specs.DistributionPoints.{distribution_points, AreDistributionPoints, seen_points}

abbrev pub seen_found : Option code.DistributionPoints → Option (List DistributionPoint)
seen_found found = seen seen_points found

abbrev pub some_points : Place → Result (Option (List DistributionPoint)) (CertRule × ℕ)
some_points value = distribution_points value >>= λ points. Ok (Some points)

-- The distribution points, if there is the extension.
unfoldable pub certificate_points : ExtensionValues → Result (Option (List DistributionPoint)) (CertRule × ℕ)
certificate_points values = read_if_there None some_points values.distribution_points

abbrev pub SaysPoints : Place → Option (List DistributionPoint) → Type 0
SaysPoints value field =
    (points : List DistributionPoint) × AreDistributionPoints value points × (field ≡ Some points)

-- what cRLDistributionPoints says, or None without it
abbrev pub SayPoints : ExtensionValues → Option (List DistributionPoint) → Type 0
SayPoints values field = SaysIfThere values.distribution_points SaysPoints None field

abbrev pub PointsAreOfExtension : Type 0
PointsAreOfExtension =
    (octets : List ℕ) (certificate : Certificate) (field : Option (List DistributionPoint)) →
    AreOctets octets → IsCertificate octets certificate →
    (certificate_points certificate.extensions.values ≡ Ok field) ↔ SayPoints certificate.extensions.values field
