use Rattle.std.proofs.Common.{length}
use Rattle.names_distinguished.specs.BatchView.{batched}
use Rattle.names_distinguished.specs.Repetition.{kinds_of}
use Rattle.names_distinguished.proofs.Batches.{IsTaken}
use Rattle.names_distinguished.proofs.batch.Batch.of_kinds.Given as goal

abbrev pub invariant-loop-next : goal.invariant-loop-next
invariant-loop-next l = IsTaken (kinds_of l.fn.kinds) (kinds_of l.rest) (batched l.batch)

abbrev pub decreases-loop-next : goal.decreases-loop-next
decreases-loop-next l = length (kinds_of l.rest)
