-- What a pointer into a run has left.
use Rattle.std.proofs.Common.{◌≡◌, ◌∷◌, [], List, Option, Some, None, sym, ap}
use Rattle.std.specs.Prelude.{MatchOption}
use Rattle.names_distinguished.specs.declared.kinds.PlacedKind.{PlacedKind}
use Rattle.names_distinguished.specs.declared.repetition.Pointer.{Pointer}
use Rattle.names_distinguished.specs.Repetition.{Placed, with_next, kinds_of, pointed}

pub pointed_next : (pointer : Pointer) (k : PlacedKind) → pointer.next ≡ Some k → pointed pointer ≡ (k.at, k.kind.now) ∷ kinds_of pointer.others
unfolding pointed
pointed_next pointer k e = ap (λ (o : Option PlacedKind). with_next o (kinds_of pointer.others)) e

pub pointed_none : (pointer : Pointer) → pointer.next ≡ None → pointed pointer ≡ []
unfolding pointed
pointed_none pointer e = ap (λ (o : Option PlacedKind). with_next o (kinds_of pointer.others)) e

pub stepped : (next : Option PlacedKind) (all others : List Placed) → MatchOption next (all ≡ []) (λ (k : PlacedKind). all ≡ (k.at, k.kind.now) ∷ others) → with_next next others ≡ all
stepped None all others h = sym h
stepped (Some k) all others h = sym h
