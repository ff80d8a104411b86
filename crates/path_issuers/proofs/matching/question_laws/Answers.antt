use Rattle.path_issuers.proofs.Agreeing.{questions_suffice}
use Rattle.path_issuers.proofs.matching.question_laws.Goals as goal

pub returns : goal.returns
returns c = record { suffice = questions_suffice }
