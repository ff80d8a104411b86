-- Who judges signatures, as a fixed relation.
use Rattle.std.specs.Prelude.{ℕ, List, Bool}

-- what a verifier accepts, of algorithm, key, message and signature
abbrev pub Accepts : Type 0
Accepts = List ℕ → List ℕ → List ℕ → List ℕ → Bool
