use Rattle.std.proofs.Common.{◌≡◌, ◌||◌, ℕ, List, take}
use Rattle.path_policies.specs.Lists.{is_listed}
use Rattle.path_policies.specs.Sets.{has}
use Rattle.path_policies.proofs.lists.insert_all.Given as goal

abbrev pub invariant-loop-policy : goal.invariant-loop-policy
invariant-loop-policy l = (policy : List ℕ) → has l.set policy ≡ (is_listed (take l.policy-index l.policies) policy || has l.initial.set policy)
