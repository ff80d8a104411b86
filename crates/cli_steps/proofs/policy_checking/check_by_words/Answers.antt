use Rattle.std.proofs.Common.{inl, inr, refl}
use Rattle.std.proofs.lemmas.Result.{err_from_is_err_and}
use Rattle.path_with_policies.specs.WithPolicies.{QueryWithPolicies}
use Rattle.cli_operands.proofs.Laws.{have_terms}
use Rattle.cli_operands.specs.Policies.{AsksWithPolicies, IsFailureOfPolicyPath}
use Rattle.cli_words.specs.PolicyTexts.{seen_policy_words}
use Rattle.cli_words.specs.QueryTexts.{seen_words}
use Rattle.cli_steps.proofs.Passed.{further}
use Rattle.cli_steps.proofs.ToldPolicies.{some_policies}
use Rattle.cli_steps.specs.WithPolicies.{ChecksThen, IsFailureOfPolicyQuery}
use Rattle.cli_steps.proofs.policy_checking.check_by_words.Goals as goal

pub returns-in_err-terms : goal.returns-in_err-terms
returns-in_err-terms g c =
    let p = err_from_is_err_and c.from_residual.result c.from_residual.ensures.1 in
    rw (p.1, p.2) (inl (inl c.in_err-terms.ensures.fails, refl))

pub returns-in_err-read : goal.returns-in_err-read
returns-in_err-read g c =
    let p = err_from_is_err_and c.from_residual-in_err-read.result c.from_residual-in_err-read.ensures.1 in
    let texts = seen_words c.args.words.now in
    rw (p.1, p.2) (inl (inr (have_terms texts c.in_ok-terms.terms c.in_ok-terms.ensures.reads, inl c.in_err-read.ensures.fails), refl))

pub returns : goal.returns
returns g c =
    let holds = g.S.Source.holds c.args.source.now in
    let texts = seen_words c.args.words.now in
    let asked = seen_policy_words c.args.policies.now in
    let named = c.in_ok-terms.ensures.reads in
    let say = c.in_ok-read.ensures.reads in
    further (λ (q : QueryWithPolicies). q) (AsksWithPolicies holds texts asked) (AsksWithPolicies holds texts asked) (IsFailureOfPolicyPath holds texts) (IsFailureOfPolicyQuery holds texts asked)
    (λ old new (q : QueryWithPolicies). ChecksThen g.R.AnswerQuery.answers old new (g.V.Verifier.accepts c.args.verifier.now) q)
    c.args.receiver.now c.check_on.new.receiver c.check_on.result
    (λ q asks. asks)
    (λ failure fails. inr (have_terms texts c.in_ok-terms.terms named, inr (some_policies asked c.in_ok-read.read say, fails)))
    (c.check_on.ensures named asked say)
