use Rattle.relying_agreement.proofs.ComparisonLaws.{comparison_exists, comparison_is_one, never_differs}
use Rattle.relying_agreement.proofs.agreement.comparison_laws.Goals as goal

pub returns-clause-exists : goal.returns-clause-exists
returns-clause-exists c = comparison_exists

pub returns-clause-one : goal.returns-clause-one
returns-clause-one c = comparison_is_one c.outcome_laws.ensures

pub returns-clause-never : goal.returns-clause-never
returns-clause-never c = never_differs c.outcome_laws.ensures
