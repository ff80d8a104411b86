use Rattle.std.proofs.Common.{inl, inr, refl}
use Rattle.capi_values.proofs.Among.{why_not_of_judge}
use Rattle.capi_values.proofs.diagnosis.answer_why_not.Goals as goal

pub returns-in-Ok-clause-judged : goal.returns-in-Ok-clause-judged
returns-in-Ok-clause-judged c = λ accepts are.
    why_not_of_judge accepts c.args.search.now are.0 c.args.fingerprints.now are.1 c.why_not_question_laws.ensures.prints c.tell.result _ _
    (inl (c.in-Ok.found, c.in-Ok.ensures.finds, c.tell.ensures.tells))

pub returns-in-Err-clause-judged : goal.returns-in-Err-clause-judged
returns-in-Err-clause-judged c = λ accepts are.
    why_not_of_judge accepts c.args.search.now are.0 c.args.fingerprints.now are.1 c.why_not_question_laws.ensures.prints c.without_end.result _ _
    (inr (c.in-Err.refusal, (c.in-Err.ensures.refuses, c.without_end.ensures, refl)))
