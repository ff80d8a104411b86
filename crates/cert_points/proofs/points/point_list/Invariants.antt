use Rattle.std.proofs.Common.{◌≡◌, [], length}
use Rattle.asn.specs.Members.{left}
use Rattle.asn.specs.Walk.{each}
use Rattle.cert_points.specs.DistributionPoints.{one_more_point, seen_point_list}
use Rattle.cert_points.proofs.points.point_list.Given as goal

abbrev pub invariant-loop-value : goal.invariant-loop-value
invariant-loop-value l = each one_more_point (seen_point_list l.all) ((left l.members).values) ≡ each one_more_point [] ((left l.fn.members).values)

abbrev pub decreases-loop-value : goal.decreases-loop-value
decreases-loop-value l = length (left l.members).values
