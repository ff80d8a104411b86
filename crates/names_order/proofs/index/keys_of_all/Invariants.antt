use Rattle.std.proofs.Common.{take}
use Rattle.names_order.specs.Index.{all_of, KeysDecide}
use Rattle.names_order.proofs.index.keys_of_all.Given as goal

abbrev pub invariant-loop-index : goal.invariant-loop-index
invariant-loop-index l = KeysDecide l.keys.items (all_of (take l.index-index l.indexes))
