use Rattle.path_policies.proofs.Deciding.{outcome_is_one}
use Rattle.path_policies.proofs.processing.policy_outcome_laws.Goals as goal

pub returns : goal.returns
returns c = outcome_is_one
