use Rattle.std.proofs.Common.{inl, inr, ap, ◌∙◌}
use Rattle.capi_values.specs.Finding.{without_path}
use Rattle.capi_values.proofs.Among.{finding_of_judge}
use Rattle.capi_values.proofs.finding.answer_search.Goals as goal

pub returns-in-Ok-clause-judged : goal.returns-in-Ok-clause-judged
returns-in-Ok-clause-judged c = λ accepts are.
    finding_of_judge accepts c.args.search.now c.args.statements.now c.args.fingerprints.now are c.finding_question_laws.ensures.prints _ _ _
    (inl c.in-Ok.ensures.finds)

pub returns-in-Err-clause-judged : goal.returns-in-Err-clause-judged
returns-in-Err-clause-judged c = λ accepts are.
    finding_of_judge accepts c.args.search.now c.args.statements.now c.args.fingerprints.now are c.finding_question_laws.ensures.prints _ _ _
    (inr (c.in-Err.refusal, (c.in-Err.ensures.refuses, c.without_path.ensures ∙ ap without_path c.refused.ensures.tells, c.in-Err.ensures.unwritten)))
