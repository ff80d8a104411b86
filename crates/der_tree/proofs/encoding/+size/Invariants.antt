use Rattle.std.proofs.Common.{◌≡◌, ◌+◌, ◌<◌, drop}
use Rattle.der.specs.Length.{contents_limit}
use Rattle.asn.specs.Size.{size_of_all, AreEncodableAt}
use Rattle.der_tree.specs.Tree.{values_of_trees}
use Rattle.der_tree.proofs.encoding.+size.Given as goal

abbrev pub invariant-sizes_at-loop-tree : goal.invariant-sizes_at-loop-tree
invariant-sizes_at-loop-tree l = record {
  bounded : l.size < contents_limit;
  total : l.size + size_of_all (values_of_trees (drop l.tree-index l.trees)) ≡ size_of_all (values_of_trees l.trees);
  enough : AreEncodableAt l.depth (values_of_trees (drop l.tree-index l.trees)) → AreEncodableAt l.depth (values_of_trees l.trees);
  owed : AreEncodableAt l.depth (values_of_trees l.trees) → AreEncodableAt l.depth (values_of_trees (drop l.tree-index l.trees));
}
