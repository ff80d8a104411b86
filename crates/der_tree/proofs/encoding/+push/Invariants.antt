use Rattle.std.proofs.Common.{◌≡◌, ◌++◌, drop}
use Rattle.asn.specs.Size.{octets_of_all, AreEncodableAt}
use Rattle.der_tree.specs.Tree.{values_of_trees}
use Rattle.der_tree.proofs.encoding.+push.Given as goal

abbrev pub invariant-push_values-loop-tree : goal.invariant-push_values-loop-tree
invariant-push_values-loop-tree l = record {
  encodable : AreEncodableAt l.depth (values_of_trees (drop l.tree-index l.trees));
  written : l.out.items ++ octets_of_all (values_of_trees (drop l.tree-index l.trees)) ≡ l.fn.out.items ++ octets_of_all (values_of_trees l.trees);
}
