use Rattle.std.proofs.Common.{length}
use Rattle.names_distinguished.specs.Agreement.{SearchesOn, run_left}
use Rattle.names_distinguished.proofs.run.Run.past.Given as goal

abbrev pub invariant-loop-rest : goal.invariant-loop-rest
invariant-loop-rest l = SearchesOn l.kind (run_left l.fn.self) (run_left l.rest)

abbrev pub decreases-loop-rest : goal.decreases-loop-rest
decreases-loop-rest l = length (run_left l.rest)
