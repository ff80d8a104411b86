use Rattle.std.proofs.Common.{length}
use Rattle.names_distinguished.specs.Repetition.{kinds_of, pointed}
use Rattle.names_distinguished.proofs.Runs.{IsSearch}
use Rattle.names_distinguished.proofs.repetition.new_in_run.Given as goal

abbrev pub invariant-loop-one : goal.invariant-loop-one
invariant-loop-one l = IsSearch (kinds_of l.all) (kinds_of l.run) (kinds_of l.earlier) (pointed l.pointer) l.last l.start l.limit

abbrev pub decreases-loop-one : goal.decreases-loop-one
decreases-loop-one l = length (kinds_of l.earlier)
