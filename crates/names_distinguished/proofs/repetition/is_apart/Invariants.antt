use Rattle.std.proofs.Common.{length}
use Rattle.names_distinguished.specs.Agreement.{SearchesOn, run_left}
use Rattle.names_distinguished.specs.BatchView.{batched}
use Rattle.names_distinguished.specs.Repetition.{kinds_of}
use Rattle.names_distinguished.proofs.Batches.{IsPassed}
use Rattle.names_distinguished.proofs.repetition.is_apart.Given as goal

abbrev pub invariant-loop-one : goal.invariant-loop-one
invariant-loop-one l = record {
  searches : SearchesOn l.last (run_left l.run) (run_left l.left);
  passed : IsPassed l.start (batched l.batch) (kinds_of l.all) (kinds_of l.earlier);
}

abbrev pub decreases-loop-one : goal.decreases-loop-one
decreases-loop-one l = length (kinds_of l.earlier)
