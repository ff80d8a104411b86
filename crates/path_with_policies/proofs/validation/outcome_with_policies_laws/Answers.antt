use Rattle.path_with_policies.proofs.Joining.{valid_path}
use Rattle.path_with_policies.proofs.OneOutcome.{outcome_is_one}
use Rattle.path_with_policies.proofs.validation.outcome_with_policies_laws.Goals as goal

pub returns-clause-one : goal.returns-clause-one
returns-clause-one c = outcome_is_one c.policy_outcome_laws.ensures

pub returns-clause-valid : goal.returns-clause-valid
returns-clause-valid c = valid_path
