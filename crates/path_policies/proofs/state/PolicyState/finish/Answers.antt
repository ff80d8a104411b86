use Rattle.std.proofs.Common.{subst}
use Rattle.path_policies.specs.Outcome.{IsPolicyOutcome}
use Rattle.path_policies.specs.Seen.{seen_query}
use Rattle.path_policies.proofs.Stepping.{refused_last}
use Rattle.path_policies.proofs.state.PolicyState.finish.Goals as goal

pub returns : goal.returns
returns c =
    refused_last c.self.view_is c.requires c.self.invariant.walked.pass c.in-Bad.number c.in-Bad.reason
    (subst (IsPolicyOutcome (seen_query c.self.inside.query)) c.in-Bad.is c.in_ok-sets.ensures)
