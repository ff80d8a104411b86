use Rattle.std.proofs.Common.{◌≡◌, length}
use Rattle.asn.specs.Members.{left}
use Rattle.asn.specs.Walk.{each}
use Rattle.cert_policies.specs.CertificatePolicies.{one_more_policy, none_stated, seen_stated}
use Rattle.cert_policies.proofs.policies.stated_by.Given as goal

abbrev pub invariant-loop-value : goal.invariant-loop-value
invariant-loop-value l = each one_more_policy (seen_stated l.stated) ((left l.members).values) ≡ each one_more_policy none_stated ((left l.fn.members).values)

abbrev pub decreases-loop-value : goal.decreases-loop-value
decreases-loop-value l = length (left l.members).values
