use Rattle.path.proofs.Outcomes.{outcome_is_one}
use Rattle.path.proofs.validation.outcome_laws.Goals as goal

pub returns : goal.returns
returns c = outcome_is_one
