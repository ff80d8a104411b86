use Rattle.std.proofs.Common.{◌≡◌, ℕ, List, take}
use Rattle.path_policies.specs.Lists.{is_listed, is_picked, is_named_in}
use Rattle.path_policies.specs.Sets.{has}
use Rattle.path_policies.proofs.lists.named_in.Given as goal

abbrev pub invariant-loop-policy : goal.invariant-loop-policy
invariant-loop-policy l = (policy : List ℕ) → is_listed l.picked.items policy ≡ is_picked (take l.policy-index l.policies) (is_named_in l.wanted (has l.set)) policy
