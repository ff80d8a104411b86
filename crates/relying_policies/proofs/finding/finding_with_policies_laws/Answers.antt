use Rattle.relying_policies.proofs.Found.{finding_with_policies_is_one, found_is_valid, not_found}
use Rattle.relying_policies.proofs.finding.finding_with_policies_laws.Goals as goal

pub returns-clause-valid : goal.returns-clause-valid
returns-clause-valid c =
    found_is_valid c.search_laws.ensures.ordered c.verdict_laws.ensures.valid c.verdict_laws.ensures.one c.outcome_with_policies_laws.ensures.one
    c.outcome_with_policies_laws.ensures.valid

pub returns-clause-none : goal.returns-clause-none
returns-clause-none c =
    not_found c.search_laws.ensures.ordered c.verdict_laws.ensures.valid c.verdict_laws.ensures.one c.outcome_with_policies_laws.ensures.one
    c.outcome_with_policies_laws.ensures.valid

pub returns-clause-one : goal.returns-clause-one
returns-clause-one c =
    finding_with_policies_is_one c.search_laws.ensures.ordered c.verdict_laws.ensures.valid c.verdict_laws.ensures.one c.outcome_with_policies_laws.ensures.one
    c.outcome_with_policies_laws.ensures.valid
