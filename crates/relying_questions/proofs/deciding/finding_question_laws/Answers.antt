use Rattle.relying_questions.proofs.FindingAlike.{finding_prints_decide, finding_questions_decide}
use Rattle.relying_questions.proofs.deciding.finding_question_laws.Goals as goal

pub returns-clause-decide : goal.returns-clause-decide
returns-clause-decide c = finding_questions_decide

pub returns-clause-prints : goal.returns-clause-prints
returns-clause-prints c = finding_prints_decide
