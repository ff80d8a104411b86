use Rattle.std.proofs.Common.{length}
use Rattle.asn.specs.Members.{left}
use Rattle.cli_details.proofs.distribution.write_points.Given as goal

abbrev pub decreases-loop-point : goal.decreases-loop-point
decreases-loop-point l = length (left l.points).values
