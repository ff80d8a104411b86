use Rattle.std.proofs.Common.{length}
use Rattle.asn.specs.Members.{left}
use Rattle.cli_details.proofs.access.write_access.Given as goal

abbrev pub decreases-loop-description : goal.decreases-loop-description
decreases-loop-description l = length (left l.descriptions).values
