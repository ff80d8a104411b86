use Rattle.std.proofs.Common.{◌≡◌, length}
use Rattle.asn.specs.Members.{left}
use Rattle.asn.specs.Walk.{each}
use Rattle.cert_policies.specs.ProcessedPolicies.{one_policy}
use Rattle.cert_policies.proofs.processed.check_all_policies.Given as goal

abbrev pub invariant-loop-value : goal.invariant-loop-value
invariant-loop-value l = each one_policy tt (left l.members).values ≡ each one_policy tt (left l.fn.members).values

abbrev pub decreases-loop-value : goal.decreases-loop-value
decreases-loop-value l = length (left l.members).values
