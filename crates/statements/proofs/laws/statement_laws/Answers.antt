use Rattle.statements.proofs.Signers.{signers_are_found}
use Rattle.statements.proofs.StatementLaws.{statement_is_exact, statements_are_facts}
use Rattle.statements.proofs.laws.statement_laws.Goals as goal

pub returns-clause-exact : goal.returns-clause-exact
returns-clause-exact c = statement_is_exact

pub returns-clause-signers : goal.returns-clause-signers
returns-clause-signers c = signers_are_found

pub returns-clause-genuine : goal.returns-clause-genuine
returns-clause-genuine c = statements_are_facts
