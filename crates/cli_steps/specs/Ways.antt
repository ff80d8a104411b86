-- What is done on the way of a step.
use Rattle.cli_steps.specs.declared.believed.Believed.{Believed}
use Rattle.cli_steps.specs.Keeping.{Keeping}
use Rattle.cli_steps.specs.State.{IsState, SessionState}
use Rattle.cli_steps.specs.declared.party.Party.{Party}

-- whatever the party believed and held, it believes and holds something now, and the two are related so
abbrev pub Steps : Believed → Keeping → Believed → Keeping → (SessionState → SessionState → Type 0) → Type 0
Steps old_believed old_keeps believed keeps Are =
    (old : SessionState) → IsState old_believed old_keeps old →
    (new : SessionState) × IsState believed keeps new × Are old new

-- the same of a party, if the disk of its keeper has returned what was written
abbrev pub MovesParty : {K : Type 0} → (K → Type 0) → (K → Keeping) → Party K → Party K → (SessionState → SessionState → Type 0) → Type 0
MovesParty is_clean keeps old new Are =
    is_clean new.keeper →
    Steps old.believed (keeps old.keeper) new.believed (keeps new.keeper) Are
