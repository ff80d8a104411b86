use Rattle.std.proofs.Common.{length}
use Rattle.asn.specs.Members.{left}
use Rattle.cli_details.proofs.extension.next_with.Given as goal

abbrev pub decreases-loop-value : goal.decreases-loop-value
decreases-loop-value l = length (left l.members).values
