use Rattle.std.proofs.Common.{length}
use Rattle.names_distinguished.specs.Repetition.{Ascends, Covers, pointed}
use Rattle.names_distinguished.proofs.repetition.Pointer.past.Given as goal

abbrev pub invariant-loop-pointer : goal.invariant-loop-pointer
invariant-loop-pointer l = record {
  covers : Covers l.kind (pointed l.fn.self) (pointed l.pointer);
  ascends : Ascends l.limit (pointed l.fn.self) → Ascends l.limit (pointed l.pointer);
}

abbrev pub decreases-loop-pointer : goal.decreases-loop-pointer
decreases-loop-pointer l = length (pointed l.pointer)
