use Rattle.std.proofs.Common.{length}
use Rattle.names_distinguished.specs.NameView.{maps_of}
use Rattle.names_distinguished.proofs.Keys.{AreKeysUpTo}
use Rattle.names_distinguished.proofs.name_key.push_rdns.Given as goal

abbrev pub invariant-loop-rdn : goal.invariant-loop-rdn
invariant-loop-rdn l = AreKeysUpTo l.initial.out.items (maps_of l.name) (maps_of l.rest) l.out.items

abbrev pub decreases-loop-rdn : goal.decreases-loop-rdn
decreases-loop-rdn l = length (maps_of l.rest)
