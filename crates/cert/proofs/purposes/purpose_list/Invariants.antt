use Rattle.std.proofs.Common.{◌≡◌, map, [], length}
use Rattle.asn.specs.Members.{left}
use Rattle.asn.specs.Walk.{each}
use Rattle.asn.specs.Oid.{oid_contents}
use Rattle.cert.specs.Purposes.{one_more_purpose}
use Rattle.cert.proofs.purposes.purpose_list.Given as goal

abbrev pub invariant-loop-value : goal.invariant-loop-value
invariant-loop-value l = each one_more_purpose (map oid_contents l.all.items) ((left l.members).values) ≡ each one_more_purpose [] ((left l.fn.members).values)

abbrev pub decreases-loop-value : goal.decreases-loop-value
decreases-loop-value l = length (left l.members).values
