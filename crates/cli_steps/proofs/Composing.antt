-- What is known of a party, step by step.
use Rattle.std.proofs.Common.{refl}
use Rattle.cli_steps.specs.declared.believed.Believed.{Believed}
use Rattle.cli_steps.specs.Keeping.{Keeping, Keeps}
use Rattle.cli_steps.specs.State.{SessionState}
use Rattle.cli_steps.specs.Ways.{Steps}
use Rattle.cli_steps.specs.Serving.{IsSame}

-- nothing happened
pub stays : (believed : Believed) (keeps : Keeping) → Steps believed keeps believed keeps IsSame
stays believed keeps state is = (state, is, refl)

-- one relation, and then another
pub further : (first second third : Believed) (old middle new : Keeping) (One Other Both : SessionState → SessionState → Type 0) → ((start between now : SessionState) → One start between → Other between now → Both start now)
    → Steps first old second middle One → Steps second middle third new Other → Steps first old third new Both
further first second third old middle new One Other Both so one other start is =
    let (between, is_between, came) = one start is in
    let (now, is_now, went) = other between is_between in
    (now, is_now, so start between now came went)

-- behind it, the keeper keeps what it kept
pub kept : (first second : Believed) (old middle new : Keeping) (One : SessionState → SessionState → Type 0) → Steps first old second middle One → Keeps middle new → Steps first old second new One
kept first second old middle new One one keeps start is =
    let (now, is_now, came) = one start is in
    (now, record { listed = is_now.listed; believes = is_now.believes; keeps = keeps now.kept is_now.keeps }, came)
