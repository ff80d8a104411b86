use Rattle.std.proofs.Common.{length}
use Rattle.names_distinguished.specs.NameView.{entries_of}
use Rattle.names_distinguished.specs.Agreement.{SearchesOn, run_left}
use Rattle.names_distinguished.proofs.Agreement.{IsCounted}
use Rattle.names_distinguished.proofs.run.Run.count_in.Given as goal

abbrev pub invariant-loop-attribute : goal.invariant-loop-attribute
invariant-loop-attribute l = record {
  searches : SearchesOn l.last (run_left l.self) (run_left l.left);
  counts : IsCounted (run_left l.self) (entries_of l.set) (entries_of l.rest) l.count;
}

abbrev pub decreases-loop-attribute : goal.decreases-loop-attribute
decreases-loop-attribute l = length (entries_of l.rest)
