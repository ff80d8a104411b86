-- A layout has one reading.
use Rattle.std.specs.Prelude.{◌≡◌, List, Option}
use Rattle.asn.specs.Place.{Place}
use Rattle.cert.specs.ExtensionValues.{ExtensionValues}
use Rattle.cert_points.specs.GeneralNames.{AreGeneralNames}
use Rattle.cert_points.specs.PointName.{IsPointName}
use Rattle.cert_points.specs.DistributionPoint.{DistributionPoint, IsDistributionPoint}
use Rattle.cert_points.specs.DistributionPoints.{AreDistributionPoints}
use Rattle.cert_points.specs.PointReading.{SayPoints}

-- a value that is one thing is no other
abbrev pub HasOneAnswer : {X : Type 0} → (Place → X → Type 0) → Type 0
HasOneAnswer {X} Is = (value : Place) (one other : X) → Is value one → Is value other → one ≡ other

abbrev pub NamesHaveOneAnswer : Type 0
NamesHaveOneAnswer = HasOneAnswer AreGeneralNames

abbrev pub NameHasOneAnswer : Type 0
NameHasOneAnswer = HasOneAnswer IsPointName

abbrev pub PointHasOneAnswer : Type 0
PointHasOneAnswer = HasOneAnswer IsDistributionPoint

abbrev pub PointsHaveOneAnswer : Type 0
PointsHaveOneAnswer = HasOneAnswer AreDistributionPoints

-- the same of what the values of extensions say
abbrev pub CertificateHasOneAnswer : Type 0
CertificateHasOneAnswer =
    (values : ExtensionValues) (one other : Option (List DistributionPoint)) →
    SayPoints values one → SayPoints values other → one ≡ other
