-- A layout has one reading, since the walk has.
use Rattle.std.proofs.Common.{ℕ, sym, ◌∙◌}
use Rattle.asn.proofs.Laws.{ok_is}
use Rattle.cert.specs.declared.fault.CertRule.{CertRule}
use Rattle.cert_points.specs.OneAnswer.{NamesHaveOneAnswer, NameHasOneAnswer, PointHasOneAnswer, PointsHaveOneAnswer}
use Rattle.cert_points.proofs.ListedNames.{names_are}
use Rattle.cert_points.proofs.ChosenNames.{point_name_is}
use Rattle.cert_points.proofs.OnePoint.{point_is}
use Rattle.cert_points.proofs.ManyPoints.{points_are}

pub names_once : NamesHaveOneAnswer
names_once value one other is also = ok_is {E = CertRule × ℕ} one other (sym (names_are value one is) ∙ names_are value other also)

pub name_once : NameHasOneAnswer
name_once value one other is also = ok_is {E = CertRule × ℕ} one other (sym (point_name_is value one is) ∙ point_name_is value other also)

pub point_once : PointHasOneAnswer
point_once value one other is also = ok_is {E = CertRule × ℕ} one other (sym (point_is value one is) ∙ point_is value other also)

pub points_once : PointsHaveOneAnswer
points_once value one other is also = ok_is {E = CertRule × ℕ} one other (sym (points_are value one is) ∙ points_are value other also)
