use Rattle.std.proofs.Common.{◌≡◌, [], length}
use Rattle.asn.specs.Members.{left}
use Rattle.asn.specs.Walk.{each}
use Rattle.cert_policies.specs.PolicyExtensions.{seen_mappings}
use Rattle.cert_policies.specs.PolicyMappings.{one_more_mapping}
use Rattle.cert_policies.proofs.mappings.mapping_list.Given as goal

abbrev pub invariant-loop-value : goal.invariant-loop-value
invariant-loop-value l = each one_more_mapping (seen_mappings l.all) ((left l.members).values) ≡ each one_more_mapping [] ((left l.fn.members).values)

abbrev pub decreases-loop-value : goal.decreases-loop-value
decreases-loop-value l = length (left l.members).values
