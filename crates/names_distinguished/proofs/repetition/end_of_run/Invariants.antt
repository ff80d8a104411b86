use Rattle.std.proofs.Common.{ℕ, length}
use Rattle.names_distinguished.specs.Repetition.{Ascends, Rises, kinds_of}
use Rattle.names_distinguished.proofs.repetition.end_of_run.Given as goal

abbrev pub invariant-loop-next : goal.invariant-loop-next
invariant-loop-next l = (limit : ℕ) → Rises limit l.last (kinds_of l.rest) → Ascends limit (kinds_of l.fn.kinds)

abbrev pub decreases-loop-next : goal.decreases-loop-next
decreases-loop-next l = length (kinds_of l.rest)
