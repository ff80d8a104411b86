-- A verifier that believes a list of fingerprints.
use Rattle.std.specs.Prelude.{◌↔◌, ℕ, List, Bool, IsTrue, Contains}
use Rattle.std.specs.List.{list_any}
use Rattle.std.specs.Str.{bytes_eq}
use Rattle.path_verifiers.specs.declared.list_verifier.ListVerifier.{ListVerifier}

-- whether the fingerprint is in the list
unfoldable pub is_listed : ListVerifier → List ℕ → Bool
is_listed verifier print = list_any (bytes_eq print) verifier.prints.items

-- the fingerprints in the list are these
abbrev pub Believes : ListVerifier → List (List ℕ) → Type 0
Believes verifier prints = (print : List ℕ) → (IsTrue (is_listed verifier print) ↔ Contains prints print)
