use Rattle.path_policies.proofs.Stepping.{acceptable_before}
use Rattle.path_policies.proofs.state.PolicyState.done.Goals as goal

pub returns-clause-acceptable : goal.returns-clause-acceptable
returns-clause-acceptable c = acceptable_before c.self.view_is c.self.invariant.within c.self.invariant.walked.pass
