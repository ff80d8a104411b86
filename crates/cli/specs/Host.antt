-- What a run finds: its files and its stores.
use Rattle.cli_failures.specs.Failures.{Holding}
use Rattle.cli_store.specs.Standing.{Places}

-- what files hold, and what is known of the places of stores
pub record HostState : Type 1 where
  pub holds : Holding
  pub at : Places

-- those of the source of a run
abbrev pub host : {S : Type 0} → (S → Holding) → (S → Places) → S → HostState
host holds places source = record { holds = holds source; at = places source }
