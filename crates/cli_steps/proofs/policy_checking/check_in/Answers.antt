use Rattle.std.proofs.Common.{inl}
use Rattle.std.proofs.lemmas.Result.{err_from_is_err_and}
use Rattle.cli_steps.proofs.ToldPolicies.{told_then}
use Rattle.cli_steps.proofs.policy_checking.check_in.Goals as goal

pub returns-in_err-verdict : goal.returns-in_err-verdict
returns-in_err-verdict g c =
    let p = err_from_is_err_and c.from_residual.result c.from_residual.ensures.1 in
    rw (p.1, p.2) (inl (rw c.path.ensures.path at c.in_err-verdict.ensures))

pub returns : goal.returns
returns g c =
    told_then g.R.AnswerQuery.answers c.args.receiver.now c.answer.new.self (g.V.Verifier.accepts c.args.verifier.now) c.args.query.now
    c.in_ok-verdict.verdict c.tell_with_policies.result (rw c.path.ensures.path at c.in_ok-verdict.ensures) c.tell_with_policies.ensures.told c.tell_with_policies.ensures.fails
