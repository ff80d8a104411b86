use Rattle.std.proofs.Common.{length}
use Rattle.names_distinguished.specs.NameView.{entries_of}
use Rattle.names_distinguished.specs.Agreement.{rising}
use Rattle.names_distinguished.proofs.RunParts.{LeavesBehind}
use Rattle.names_distinguished.proofs.rdn.Rdn.behind_run.Given as goal

abbrev pub invariant-loop-next : goal.invariant-loop-next
invariant-loop-next l = LeavesBehind (entries_of l.self) (rising l.last (entries_of l.rest)) (entries_of l.rest)

abbrev pub decreases-loop-next : goal.decreases-loop-next
decreases-loop-next l = length (entries_of l.rest)
