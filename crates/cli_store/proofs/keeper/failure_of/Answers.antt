use Rattle.std.proofs.Common.{inl, inr}
use Rattle.cli_store.proofs.keeper.failure_of.Goals as goal

pub returns-in-Ok-clause-told : goal.returns-in-Ok-clause-told
returns-in-Ok-clause-told g c = λ clean. inr (c.failed-in-Ok.ensures, c.in-Ok.ensures.open clean)

pub returns-in-Err-clause-told : goal.returns-in-Err-clause-told
returns-in-Err-clause-told g c = λ clean. inl c.refused.ensures
