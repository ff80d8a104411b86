use Rattle.std.proofs.Common.{length}
use Rattle.names_distinguished.specs.DistinguishedName.{HasKind}
use Rattle.names_distinguished.specs.NameView.{maps_of}
use Rattle.names_distinguished.proofs.Matching.{IsAlike}
use Rattle.names_distinguished.proofs.rdn_sequence.RdnSequence.has.Given as goal

abbrev pub invariant-loop-rdn : goal.invariant-loop-rdn
invariant-loop-rdn l = IsAlike (HasKind l.kind (maps_of l.self)) (HasKind l.kind (maps_of l.rest))

abbrev pub decreases-loop-rdn : goal.decreases-loop-rdn
decreases-loop-rdn l = length (maps_of l.rest)
