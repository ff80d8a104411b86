-- The points of a certificate, as it carries them where they count (RFC 5280, 4.2.1.13).
use Rattle.std.specs.Prelude.{◌≡◌, List, Option, Some, None, Ok}
use Rattle.cert.specs.Certificate.{Certificate}
use Rattle.cert.specs.CertificatePoints.{CertificatePoints, no_points}
use Rattle.cert_points.specs.DistributionPoint.{DistributionPoint}
use Rattle.cert_points.specs.CompleteNames.{complete_names}
use Rattle.cert_points.specs.LimitedNames.{limited_names}
use Rattle.cert_points.specs.PointReading.{certificate_points}

abbrev pub names_if_found : Option (List DistributionPoint) → CertificatePoints
names_if_found None = no_points
names_if_found (Some points) = record { complete = complete_names points; limited = limited_names points }

-- the certificate as it was read, with the names under which lists about it may be published
pub record HasTakenPoints (read taken : Certificate) : Type 0 where
  pub points : Option (List DistributionPoint)
  pub are_its : certificate_points read.extensions.values ≡ Ok points
  pub is_taken : taken ≡ record read { points = names_if_found points }
