use Rattle.relying_questions.proofs.Prints.{prints_decide}
use Rattle.relying_questions.proofs.SameVerdicts.{questions_decide}
use Rattle.relying_questions.proofs.deciding.question_laws.Goals as goal

pub returns-clause-decide : goal.returns-clause-decide
returns-clause-decide c = questions_decide

pub returns-clause-prints : goal.returns-clause-prints
returns-clause-prints c = prints_decide questions_decide
