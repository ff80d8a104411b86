use Rattle.std.proofs.Common.{◌≡◌, ◌≤◌, map, [], length, vec_len}
use Rattle.asn.specs.Members.{left}
use Rattle.asn.specs.Walk.{each}
use Rattle.names.specs.GeneralView.{subtree_base}
use Rattle.cert.specs.NameConstraints.{one_more_subtree}
use Rattle.cert.proofs.subtrees.subtree_list.Given as goal

abbrev pub invariant-loop-value : goal.invariant-loop-value
invariant-loop-value l =
    (each (one_more_subtree l.most) (map subtree_base l.all.items) ((left l.members).values) ≡ each (one_more_subtree l.most) [] ((left l.fn.members).values))
    × (vec_len l.all ≤ l.most)

abbrev pub decreases-loop-value : goal.decreases-loop-value
decreases-loop-value l = length (left l.members).values
