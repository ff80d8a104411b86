use Rattle.relying_questions.proofs.WhyNotAlike.{why_not_prints_decide, why_not_questions_decide}
use Rattle.relying_questions.proofs.deciding.why_not_question_laws.Goals as goal

pub returns-clause-decide : goal.returns-clause-decide
returns-clause-decide c = why_not_questions_decide

pub returns-clause-prints : goal.returns-clause-prints
returns-clause-prints c = why_not_prints_decide
