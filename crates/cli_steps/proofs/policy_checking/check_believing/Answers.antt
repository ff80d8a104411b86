use Rattle.std.proofs.Common.{inl, inr, refl}
use Rattle.std.proofs.lemmas.Result.{err_from_is_err_and}
use Rattle.path.specs.Query.{Accepts}
use Rattle.path_with_policies.specs.WithPolicies.{QueryWithPolicies}
use Rattle.cli_operands.proofs.Laws.{have_terms}
use Rattle.cli_operands.specs.Policies.{AsksWithPolicies, IsFailureOfPolicyPath}
use Rattle.cli_words.specs.PolicyTexts.{seen_policy_words}
use Rattle.cli_words.specs.QueryTexts.{seen_words}
use Rattle.cli_steps.proofs.Passed.{accepted_by, believes_file, further}
use Rattle.cli_steps.proofs.ToldPolicies.{some_policies}
use Rattle.cli_steps.specs.Commands.{BelievesFile}
use Rattle.cli_steps.specs.WithPolicies.{ChecksThen, IsFailureOfPolicyQuestion}
use Rattle.cli_steps.proofs.policy_checking.check_believing.Goals as goal

pub returns-in_err-terms : goal.returns-in_err-terms
returns-in_err-terms g c =
    let p = err_from_is_err_and c.from_residual.result c.from_residual.ensures.1 in
    rw (p.1, p.2) (inl (inl c.in_err-terms.ensures.fails, refl))

pub returns-in_err-read : goal.returns-in_err-read
returns-in_err-read g c =
    let p = err_from_is_err_and c.from_residual-in_err-read.result c.from_residual-in_err-read.ensures.1 in
    let texts = seen_words c.args.words.now in
    rw (p.1, p.2) (inl (inr (have_terms texts c.in_ok-terms.terms c.in_ok-terms.ensures.reads, inl c.in_err-read.ensures.fails), refl))

pub returns-in_err-prints : goal.returns-in_err-prints
returns-in_err-prints g c =
    let p = err_from_is_err_and c.from_residual-in_err-prints.result c.from_residual-in_err-prints.ensures.1 in
    let texts = seen_words c.args.words.now in
    let asked = seen_policy_words c.args.policies.now in
    rw (p.1, p.2) (inl (
      inr (have_terms texts c.in_ok-terms.terms c.in_ok-terms.ensures.reads, inr (some_policies asked c.in_ok-read.read c.in_ok-read.ensures.reads, inl c.in_err-prints.ensures.fails)),
      refl,
    ))

pub returns : goal.returns
returns g c =
    let holds = g.S.Source.holds c.args.source.now in
    let texts = seen_words c.args.words.now in
    let asked = seen_policy_words c.args.policies.now in
    let verifier = c.new-verifier.result in
    let named = c.in_ok-terms.ensures.reads in
    let say = c.in_ok-read.ensures.reads in
    let believes = believes_file holds c.args.verdicts.now verifier c.in_ok-prints.prints.items c.in_ok-prints.ensures.reads c.new-verifier.ensures in
    further (λ (q : QueryWithPolicies). (accepted_by verifier, q)) (AsksWithPolicies holds texts asked)
    (λ (it : Accepts × QueryWithPolicies). BelievesFile holds c.args.verdicts.now it.0 × AsksWithPolicies holds texts asked it.1)
    (IsFailureOfPolicyPath holds texts) (IsFailureOfPolicyQuestion holds c.args.verdicts.now texts asked)
    (λ old new (it : Accepts × QueryWithPolicies). ChecksThen g.R.AnswerQuery.answers old new it.0 it.1)
    c.args.receiver.now c.check_on.new.receiver c.check_on.result
    (λ q asks. (believes, asks))
    (λ failure fails. inr (have_terms texts c.in_ok-terms.terms named, inr (some_policies asked c.in_ok-read.read say, inr ((c.in_ok-prints.prints.items, c.in_ok-prints.ensures.reads), fails))))
    (c.check_on.ensures named asked say)
