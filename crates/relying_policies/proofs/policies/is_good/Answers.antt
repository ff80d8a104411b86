use Rattle.relying_policies.proofs.Found.{bad_tells, good_tells}
use Rattle.relying_policies.proofs.policies.is_good.Goals as goal

pub returns-in-Good : goal.returns-in-Good
returns-in-Good c = good_tells c.args.policies c.in-Good._sets c.in-Good.ensures

pub returns-in-Bad : goal.returns-in-Bad
returns-in-Bad c = bad_tells c.outcome_with_policies_laws.ensures.one c.args.policies c.in-Bad._number c.in-Bad._reason c.in-Bad.ensures
