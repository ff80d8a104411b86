use Rattle.statements_facts.specs.Statement.{empty_holdings}
use Rattle.test_program.proofs.shelf.filled.Goals as goal

pub returns-in-Ok-clause-filled : goal.returns-in-Ok-clause-filled
returns-in-Ok-clause-filled c = c.in-Ok.ensures.filled empty_holdings c.in_ok-store.ensures.empty
