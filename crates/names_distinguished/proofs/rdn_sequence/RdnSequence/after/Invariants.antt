use Rattle.std.proofs.Common.{length}
use Rattle.names_distinguished.specs.NameView.{maps_of}
use Rattle.names_distinguished.proofs.Matching.{IsLevel}
use Rattle.names_distinguished.proofs.rdn_sequence.RdnSequence.after.Given as goal

abbrev pub invariant-loop-wanted : goal.invariant-loop-wanted
invariant-loop-wanted l = IsLevel (maps_of l.self) (maps_of l.other) (maps_of l.inner) (maps_of l.outer)

abbrev pub decreases-loop-wanted : goal.decreases-loop-wanted
decreases-loop-wanted l = length (maps_of l.outer)
