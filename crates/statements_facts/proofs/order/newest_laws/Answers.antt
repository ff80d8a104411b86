use Rattle.statements_facts.proofs.NewestLaws.{crls_keep_newest, responses_keep_newest}
use Rattle.statements_facts.proofs.order.newest_laws.Goals as goal

pub returns-clause-crls : goal.returns-clause-crls
returns-clause-crls c = crls_keep_newest

pub returns-clause-responses : goal.returns-clause-responses
returns-clause-responses c = responses_keep_newest
