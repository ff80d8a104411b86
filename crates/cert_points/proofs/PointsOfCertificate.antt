-- What is read of a certificate is what its extension of distribution points says.
use Rattle.std.proofs.Common.{◌≡◌, ◌↔◌, ℕ, List, Option, Some, None, Result, Ok, refl, sym, ◌∙◌}
use Rattle.asn.specs.Place.{Place}
use Rattle.asn.specs.Walk.{◌>>=◌}
use Rattle.asn.proofs.Laws.{bind_ok, ok_is}
use Rattle.cert.specs.declared.extension_kind.ExtensionKind.TheVariants as Kind
use Rattle.cert.specs.declared.fault.CertRule.{CertRule}
use Rattle.cert.specs.ExtensionValues.{ExtensionValues, SaysIfThere}
use Rattle.cert.proofs.KeptValues.{says_if_there}
use Rattle.cert.proofs.StandingValues.{value_octets}
use Rattle.cert_points.specs.DistributionPoint.{DistributionPoint}
use Rattle.cert_points.specs.DistributionPoints.{distribution_points, AreDistributionPoints}
use Rattle.cert_points.specs.PointReading.{certificate_points, some_points, SaysPoints, PointsAreOfExtension}
use Rattle.cert_points.specs.OneAnswer.{CertificateHasOneAnswer, PointsHaveOneAnswer}
use Rattle.cert_points.proofs.ManyPoints.{are_points, points_are}

-- what is read and wrapped is what is said and wrapped
wrapped : (value : Place) (field : Option (List DistributionPoint)) → ((points : List DistributionPoint) → (distribution_points value ≡ Ok points) ↔ AreDistributionPoints value points)
    → (some_points value ≡ Ok field) ↔ SaysPoints value field
wrapped value field exact = (
  λ e. let found = bind_ok (distribution_points value) (λ points. Ok (Some points)) field e in (found.0, (exact found.0).0 found.1, sym (ok_is {E = CertRule × ℕ} (Some found.0) field found.2)),
  λ (points, is, same). rw ((exact points).1 is, same) refl,
)

pub points_are_of_extension : PointsAreOfExtension
unfolding certificate_points
points_are_of_extension octets certificate field fits is =
    says_if_there SaysPoints some_points None field certificate.extensions.values.distribution_points
    (λ value kept. wrapped value field (λ points. (are_points value points (value_octets octets certificate fits is Kind.DistributionPoints value kept), points_are value points)))

once : PointsHaveOneAnswer → (value : Option Place) (one other : Option (List DistributionPoint)) → SaysIfThere value SaysPoints None one → SaysIfThere value SaysPoints None other → one ≡ other
once law None one other is also = is ∙ sym also
once law (Some value) one other (points, are, is) (others, also, same) = rw (is, same, law value points others are also) refl

pub field_once : PointsHaveOneAnswer → CertificateHasOneAnswer
field_once law values one other = once law values.distribution_points one other
