use Rattle.std.proofs.Common.{◌≡◌, ◌||◌, ℕ, List, take}
use Rattle.path_policies.specs.Lists.{is_lasting}
use Rattle.path_policies.specs.Sets.{has, lasts}
use Rattle.path_policies.proofs.outcome.insert_lasting.Given as goal

abbrev pub invariant-loop-policy : goal.invariant-loop-policy
invariant-loop-policy l = (policy : List ℕ) → has l.policies policy ≡ (is_lasting (take l.policy-index l.first) (lasts l.lasting) policy || has l.initial.policies policy)
