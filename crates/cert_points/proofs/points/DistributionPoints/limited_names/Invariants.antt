use Rattle.std.proofs.Common.{◌≡◌, take, map}
use Rattle.cert_points.specs.GeneralNames.{octets_of}
use Rattle.cert_points.specs.DistributionPoint.{seen_point}
use Rattle.cert_points.specs.LimitedNames.{limited_names}
use Rattle.cert_points.proofs.points.DistributionPoints.limited_names.Given as goal

abbrev pub invariant-loop-point : goal.invariant-loop-point
invariant-loop-point l = octets_of l.all ≡ limited_names (map seen_point (take l.point-index l.self.points.items))
