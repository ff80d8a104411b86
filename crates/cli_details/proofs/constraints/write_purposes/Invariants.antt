use Rattle.std.proofs.Common.{length}
use Rattle.asn.specs.Members.{left}
use Rattle.cli_details.proofs.constraints.write_purposes.Given as goal

abbrev pub decreases-loop-purpose : goal.decreases-loop-purpose
decreases-loop-purpose l = length (left l.purposes).values
