use Rattle.std.proofs.Common.{◌∙◌, ap}
use Rattle.std.specs.Prelude.{not}
use Rattle.test_program.proofs.shelf.reopened.Goals as goal

pub returns-in-Ok-clause-holds : goal.returns-in-Ok-clause-holds
returns-in-Ok-clause-holds c = λ held stands. (c.in-Ok.ensures.restarts c.memory_is_clean.ensures).holds held stands

pub returns-in-Ok-clause-settled : goal.returns-in-Ok-clause-settled
returns-in-Ok-clause-settled c = c.is_autocommit-settled.ensures.settled (c.is_autocommit-settled.ensures.value ∙ ap not c.in-Ok.again.idle)

pub returns-clause-fails : goal.returns-clause-fails
returns-clause-fails c = λ held stands. ((rw c.in-Err-Adopt.field-0-is at c.in-Err-Adopt.ensures.fails) c.memory_is_clean-in-Err-Adopt.ensures held stands).0
