use Rattle.std.proofs.Common.{take}
use Rattle.names_order.specs.Index.{HasNoLonger}
use Rattle.names_order.proofs.index.longest_prefix.Given as goal

abbrev pub invariant-loop-base : goal.invariant-loop-base
invariant-loop-base l = HasNoLonger l.longest (take l.base-index l.list)
