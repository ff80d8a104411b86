use Rattle.path_verifiers.proofs.Framing.{judgements_are_distinct}
use Rattle.path_verifiers.proofs.fingerprinting.framing_laws.Goals as goal

pub returns : goal.returns
returns c = judgements_are_distinct
