use Rattle.relying_search.proofs.Same.{finding_is_one, parties_find_the_same}
use Rattle.relying_search.proofs.agreement.finding_laws.Goals as goal

pub returns-clause-one : goal.returns-clause-one
returns-clause-one c = finding_is_one c.search_laws.ensures.ordered c.search_laws.ensures.one c.verdict_laws.ensures.valid c.verdict_laws.ensures.one

pub returns-clause-agree : goal.returns-clause-agree
returns-clause-agree c =
    parties_find_the_same c.agreement_laws.ensures.agree c.search_laws.ensures.ordered c.search_laws.ensures.one c.verdict_laws.ensures.valid c.verdict_laws.ensures.one
