use Rattle.std.proofs.Common.{inl, inr}
use Rattle.capi_values.proofs.Judging.{verdict_of_judge}
use Rattle.capi_values.proofs.validating.answer_query.Goals as goal

pub returns-in-Ok-clause-judged : goal.returns-in-Ok-clause-judged
returns-in-Ok-clause-judged c = λ accepts are.
    verdict_of_judge accepts c.args.query.now c.args.statements.now c.args.fingerprints.now are c.question_laws.ensures.prints c.answer_of.result
    (inl (c.in-Ok.verdict, c.in-Ok.ensures.verdict, c.answer_of.ensures.tells))

pub returns-in-Err-clause-judged : goal.returns-in-Err-clause-judged
returns-in-Err-clause-judged c = λ accepts are.
    verdict_of_judge accepts c.args.query.now c.args.statements.now c.args.fingerprints.now are c.question_laws.ensures.prints c.refused.result
    (inr (c.in-Err.refusal, c.in-Err.ensures.refuses, c.refused.ensures.tells))
