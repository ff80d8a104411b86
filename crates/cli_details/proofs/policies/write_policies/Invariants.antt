use Rattle.std.proofs.Common.{length}
use Rattle.asn.specs.Members.{left}
use Rattle.cli_details.proofs.policies.write_policies.Given as goal

abbrev pub decreases-loop-policy : goal.decreases-loop-policy
decreases-loop-policy l = length (left l.policies).values
