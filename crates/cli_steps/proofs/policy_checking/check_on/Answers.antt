use Rattle.std.proofs.Common.{inl, refl}
use Rattle.std.proofs.lemmas.Result.{err_from_is_err_and}
use Rattle.path_with_policies.specs.WithPolicies.{QueryWithPolicies}
use Rattle.cli_operands.proofs.Laws.{refuse_with_policies}
use Rattle.cli_operands.specs.Policies.{AsksWithPolicies, IsFailureOfPolicyPath, IsRefusalWithPolicies}
use Rattle.cli_words.specs.QueryTexts.{seen_words}
use Rattle.cli_steps.proofs.Passed.{further}
use Rattle.cli_steps.proofs.ToldPolicies.{policies_asked}
use Rattle.cli_steps.specs.WithPolicies.{ChecksThen, IsPolicyQueryIn}
use Rattle.cli_steps.proofs.policy_checking.check_on.Goals as goal

pub returns-in_err-operands : goal.returns-in_err-operands
returns-in_err-operands g c = λ named asked say.
    let p = err_from_is_err_and c.from_residual.result c.from_residual.ensures.1 in
    rw (p.1, p.2) (inl (inl c.in_err-operands.ensures.fails, refl))

pub returns : goal.returns
returns g c = λ named asked say.
    let holds = g.S.Source.holds c.args.source.now in
    let texts = seen_words c.args.words.now in
    let it = c.in_ok-operands.operands in
    let are = c.in_ok-operands.ensures.reads in
    further (λ (q : QueryWithPolicies). q) (IsPolicyQueryIn it c.args.terms.now c.args.policies.now) (AsksWithPolicies holds texts asked) (IsRefusalWithPolicies it c.args.terms.now) (IsFailureOfPolicyPath holds texts)
    (λ old new (q : QueryWithPolicies). ChecksThen g.R.AnswerQuery.answers old new (g.V.Verifier.accepts c.args.verifier.now) q)
    c.args.receiver.now c.check_of.new.receiver c.check_of.result
    (λ q is. policies_asked holds texts asked c.args.terms.now c.args.policies.now it q named say are is)
    (λ failure refused. refuse_with_policies holds texts c.args.terms.now it failure named are refused)
    c.check_of.ensures
