use Rattle.std.proofs.Common.{inl, refl}
use Rattle.std.proofs.lemmas.Result.{err_from_is_err_and}
use Rattle.path_with_policies.specs.WithPolicies.{QueryWithPolicies}
use Rattle.cli_operands.specs.Policies.{IsRefusalWithPolicies}
use Rattle.cli_steps.proofs.Passed.{passed}
use Rattle.cli_steps.specs.WithPolicies.{ChecksThen, IsPolicyQueryIn}
use Rattle.cli_steps.proofs.policy_checking.check_of.Goals as goal

pub returns-in_err-query : goal.returns-in_err-query
returns-in_err-query g c =
    let p = err_from_is_err_and c.from_residual.result c.from_residual.ensures.1 in
    rw (p.1, p.2) (inl (c.in_err-query.ensures.fails, refl))

pub returns : goal.returns
returns g c =
    passed (IsPolicyQueryIn c.args.operands.now c.args.terms.now c.args.policies.now) (IsRefusalWithPolicies c.args.operands.now c.args.terms.now)
    (λ old new (q : QueryWithPolicies). ChecksThen g.R.AnswerQuery.answers old new (g.V.Verifier.accepts c.args.verifier.now) q)
    c.args.receiver.now c.check_in.new.receiver _ c.check_in.result
    (c.inputs-inputs.result, c.inputs-inputs.ensures (rw c.as_slice.ensures.value c.in-Ok.ensures), c.in_ok-query.ensures.asks) c.check_in.ensures
