use Rattle.std.proofs.Common.{◌∙◌, ap, inr, refl}
use Rattle.capi_values.specs.Policies.{without_policies}
use Rattle.capi_values.specs.Refusal.{no_memory}
use Rattle.capi_values.specs.Verdict.{refusal_answer}
use Rattle.capi_values.proofs.PolicyJudging.{told_of_judge, refused_of_judge}
use Rattle.capi_values.proofs.policies.answer_policy_query.Goals as goal

pub returns-in-Ok-tell-clause-judged : goal.returns-in-Ok-tell-clause-judged
returns-in-Ok-tell-clause-judged c = λ accepts are.
    told_of_judge accepts c.args.query.now c.args.inputs.now c.args.statements.now c.args.fingerprints.now are c.in-Ok-tell.answer
    c.args.lengths.now c.tell.new.lengths c.args.octets.now c.tell.new.octets c.question_laws.ensures.prints c.in-Ok.said c.in-Ok.ensures.says
    c.in-Ok-tell.ensures.tells

pub returns-in-Ok-clause-tells : goal.returns-in-Ok-clause-tells
returns-in-Ok-clause-tells c =
    inr (
      no_memory,
      inr (inr refl),
      record {
        answer_is = c.without_policies.ensures ∙ ap without_policies (c.refused.ensures.tells ∙ ap refusal_answer c.no_memory.ensures);
        lengths = c.in-Err-tell.ensures.lengths_stay;
        octets = c.in-Err-tell.ensures.octets_stay;
      },
    )

pub returns-in-Ok-clause-judged : goal.returns-in-Ok-clause-judged
returns-in-Ok-clause-judged c = λ accepts are.
    refused_of_judge accepts c.args.query.now c.args.inputs.now c.args.statements.now c.args.fingerprints.now are c.without_policies.result
    c.args.lengths.now c.tell.new.lengths c.args.octets.now c.tell.new.octets no_memory (inr (inr refl)) (record {
      answer_is = c.without_policies.ensures ∙ ap without_policies (c.refused.ensures.tells ∙ ap refusal_answer c.no_memory.ensures);
      lengths = c.in-Err-tell.ensures.lengths_stay;
      octets = c.in-Err-tell.ensures.octets_stay;
    })

pub returns-clause-judged : goal.returns-clause-judged
returns-clause-judged c = λ accepts are.
    refused_of_judge accepts c.args.query.now c.args.inputs.now c.args.statements.now c.args.fingerprints.now are c.without_policies-in-Err.result
    c.args.lengths.now c.args.lengths.now c.args.octets.now c.args.octets.now c.in-Err.refusal c.in-Err.ensures.refuses (record {
      answer_is = c.without_policies-in-Err.ensures ∙ ap without_policies c.refused-in-Err.ensures.tells;
      lengths = refl;
      octets = refl;
    })
