use Rattle.std.proofs.Common.{sym, ◌∙◌}
use Rattle.std.proofs.lemmas.Bool.{false≢true}
use Rattle.path_policies.proofs.Members.{has_none, has_one}
use Rattle.path_policies.proofs.policy_set.PolicySet.is_empty.Goals as goal

pub returns-clause-none : goal.returns-clause-none
returns-clause-none c empty policy = has_none c.args.self.now.policies.keys (c.is_empty.ensures.0 empty) policy

pub returns-clause-some : goal.returns-clause-some
returns-clause-some c some = has_one c.args.self.now.policies.keys (λ none. false≢true (sym some ∙ c.is_empty.ensures.1 none))
