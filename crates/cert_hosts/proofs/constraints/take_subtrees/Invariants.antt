use Rattle.std.proofs.Common.{◌≡◌, length}
use Rattle.asn.specs.Members.{left}
use Rattle.asn.specs.Walk.{each}
use Rattle.cert_hosts.specs.Bases.{all_bases, one_subtree}
use Rattle.cert_hosts.proofs.constraints.take_subtrees.Given as goal

abbrev pub invariant-loop-value : goal.invariant-loop-value
invariant-loop-value l =
    each (one_subtree l.permitted) (all_bases l.all) ((left l.members).values) ≡ each (one_subtree l.permitted) (all_bases l.fn.all) ((left l.fn.members).values)

abbrev pub decreases-loop-value : goal.decreases-loop-value
decreases-loop-value l = length (left l.members).values
