use Rattle.statements.proofs.InProfiles.{stated_ids_are_by_sha1, wide_responses_say_more}
use Rattle.statements.proofs.StatementLaws.{statement_is_exact_under, stated_statements_are_read_wide, statements_are_facts_under}
use Rattle.statements.proofs.laws.statement_profile_laws.Goals as goal

pub returns-clause-exact : goal.returns-clause-exact
returns-clause-exact c = statement_is_exact_under

pub returns-clause-wide : goal.returns-clause-wide
returns-clause-wide c = stated_statements_are_read_wide

pub returns-clause-genuine : goal.returns-clause-genuine
returns-clause-genuine c = statements_are_facts_under

pub returns-clause-by_sha1 : goal.returns-clause-by_sha1
returns-clause-by_sha1 c = stated_ids_are_by_sha1

pub returns-clause-more : goal.returns-clause-more
returns-clause-more c = wide_responses_say_more
