use Rattle.std.proofs.Common.{length}
use Rattle.asn.specs.Members.{left}
use Rattle.cli_details.proofs.policies.write_qualifiers.Given as goal

abbrev pub decreases-loop-qualifier : goal.decreases-loop-qualifier
decreases-loop-qualifier l = length (left l.qualifiers).values
