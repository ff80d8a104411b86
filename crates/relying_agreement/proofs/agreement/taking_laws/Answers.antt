use Rattle.relying_agreement.proofs.BecomingLaws.{outcomes_are_places}
use Rattle.relying_agreement.proofs.agreement.taking_laws.Goals as goal

pub returns : goal.returns
returns c = outcomes_are_places
