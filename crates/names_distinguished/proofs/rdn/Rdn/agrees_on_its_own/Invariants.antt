use Rattle.std.proofs.Common.{length}
use Rattle.names_distinguished.specs.NameView.{entries_of}
use Rattle.names_distinguished.proofs.Agreement.{IsAgreed}
use Rattle.names_distinguished.proofs.rdn.Rdn.agrees_on_its_own.Given as goal

abbrev pub invariant-loop-rest : goal.invariant-loop-rest
invariant-loop-rest l = IsAgreed (entries_of l.self) (entries_of l.other) (entries_of l.rest) l.found

abbrev pub decreases-loop-rest : goal.decreases-loop-rest
decreases-loop-rest l = length (entries_of l.rest)
