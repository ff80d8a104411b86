use Rattle.std.proofs.Common.{◌≡◌, ◌||◌, ℕ, List, take}
use Rattle.path_policies.specs.Lists.{is_listed}
use Rattle.path_policies.specs.Sets.{lasts}
use Rattle.path_policies.proofs.lasting.Lasting.extend.Given as goal

abbrev pub invariant-loop-policy : goal.invariant-loop-policy
invariant-loop-policy l = (policy : List ℕ) → lasts l.self policy ≡ (is_listed (take l.policy-index l.policies) policy || lasts l.initial.self policy)
