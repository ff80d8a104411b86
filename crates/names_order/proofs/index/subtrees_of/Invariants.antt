use Rattle.std.proofs.Common.{◌≡◌, take, map}
use Rattle.names.specs.GeneralView.{subtree_base}
use Rattle.names_order.specs.Index.{all_of}
use Rattle.names_order.proofs.index.subtrees_of.Given as goal

abbrev pub invariant-loop-index : goal.invariant-loop-index
invariant-loop-index l = map subtree_base l.list.items ≡ all_of (take l.index-index l.indexes)
