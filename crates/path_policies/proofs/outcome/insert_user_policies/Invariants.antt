use Rattle.std.proofs.Common.{◌≡◌, ◌||◌, ℕ, List, take}
use Rattle.path_policies.specs.Lists.{is_picked}
use Rattle.path_policies.specs.Sets.{has}
use Rattle.path_policies.proofs.outcome.insert_user_policies.Given as goal

abbrev pub invariant-loop-policy : goal.invariant-loop-policy
invariant-loop-policy l = (policy : List ℕ) → has l.policies policy ≡ (is_picked (take l.policy-index l.asked) (λ one. has l.authority one || l.all) policy || has l.initial.policies policy)
