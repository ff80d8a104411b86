use Rattle.std.proofs.Common.{◌≡◌, ◌+◌, ◌≤◌, ◌*◌, ℕ, length}
use Rattle.der.specs.Value.{Values}
use Rattle.der.specs.Encoding.{EncodesAllAt}
use Rattle.der_tree.specs.Tree.{values_of_trees}
use Rattle.der_tree.proofs.TreeValues.{joined}
use Rattle.der_tree.proofs.tree.+build.Given as goal

abbrev pub decreases-tree_of : goal.decreases-tree_of
decreases-tree_of l = 2 * length l.tlv.whole.now

abbrev pub decreases-trees_of : goal.decreases-trees_of
decreases-trees_of l = 2 * length l.members.octets.now + 1

abbrev pub invariant-trees_of-loop-tlv : goal.invariant-trees_of-loop-tlv
invariant-trees_of-loop-tlv l = record {
  smaller : length l.members.octets.now ≤ length l.fn.members.octets.now;
  built : (depth : ℕ) (values : Values) → EncodesAllAt depth l.fn.members.octets.now values
      → (others : Values) × EncodesAllAt depth l.members.octets.now others × (values ≡ joined (values_of_trees l.trees.items) others);
}

abbrev pub decreases-trees_of-loop-tlv : goal.decreases-trees_of-loop-tlv
decreases-trees_of-loop-tlv l = length l.members.octets.now
