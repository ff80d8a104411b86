use Rattle.cli_steps.proofs.ToldPolicies.{told_with}
use Rattle.cli_steps.proofs.policy_checking.tell_with_policies.Goals as goal

pub returns-in-Ok-clause-told : goal.returns-in-Ok-clause-told
returns-in-Ok-clause-told c = told_with c.args.query.now c.args.verdict c.in-Ok.answer c.told_of.result c.in-Ok.ensures c.told_of.ensures.says
