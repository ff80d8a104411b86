use Rattle.std.proofs.Common.{refl}
use Rattle.path_policies.proofs.policy_set.PolicySet.new.Goals as goal

pub returns : goal.returns
returns c policy = rw c.new.ensures.empty refl
