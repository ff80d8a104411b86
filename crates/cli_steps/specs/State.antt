-- What a session's party believes and keeps.
use Rattle.std.specs.Prelude.{ℕ, List, ◌∷◌}
use Rattle.path_verifiers.specs.ListVerifier.{Believes}
use Rattle.cli_steps.specs.Believed.{BelievesJust}
use Rattle.cli_steps.specs.declared.believed.Believed.{Believed}
use Rattle.cli_steps.specs.Keeping.{Keeping, Kept}

-- The fingerprints that it believed when the session began and those that it believes now, and the statements that are kept.
pub record SessionState : Type 0 where
  pub listed : List (List ℕ)
  pub prints : List (List ℕ)
  pub kept : Kept

-- what a party believes and keeps is this
pub record IsState (believed : Believed) (Keep : Keeping) (state : SessionState) : Type 0 where
  pub listed : Believes believed.listed state.listed
  pub believes : BelievesJust believed state.prints
  pub keeps : Keep state.kept

-- one fingerprint more is believed
abbrev pub believing : List ℕ → SessionState → SessionState
believing print state = record state { prints = print ∷ state.prints }

-- those of the beginning are believed
abbrev pub forgetting : SessionState → SessionState
forgetting state = record state { prints = state.listed }

-- something else is kept
abbrev pub keeping : Kept → SessionState → SessionState
keeping kept state = record state { kept = kept }
