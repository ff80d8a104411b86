use Rattle.std.proofs.Common.{◌≡◌, take, map}
use Rattle.cert_points.specs.GeneralNames.{octets_of}
use Rattle.cert_points.specs.DistributionPoint.{seen_point}
use Rattle.cert_points.specs.CompleteNames.{complete_names}
use Rattle.cert_points.proofs.points.DistributionPoints.complete_names.Given as goal

abbrev pub invariant-loop-point : goal.invariant-loop-point
invariant-loop-point l = octets_of l.all ≡ complete_names (map seen_point (take l.point-index l.self.points.items))
