-- Sets of policies.
use Rattle.std.specs.Prelude.{ℕ, List, Bool, not}
use Rattle.std.specs.List.{list_any}
use Rattle.std.specs.Ordering.{nat_cmp, eq_by_cmp}
use Rattle.std.specs.Cmp.Lexicographic.{slice_cmp}
use Rattle.path_policies.specs.declared.policy_set.PolicySet.{PolicySet}
use Rattle.path_policies.specs.declared.lasting.Lasting.{Lasting}
use Rattle.path_policies.specs.Lists.{same}

-- the set has the policy
abbrev pub has : PolicySet → List ℕ → Bool
has set policy = list_any (λ key. eq_by_cmp (slice_cmp nat_cmp) policy key.now) set.policies.keys

-- the policy goes on: it is one of the exceptions, or not, and the others do not go on, or do
abbrev pub lasts : Lasting → List ℕ → Bool
lasts lasting policy = not (same (has lasting.exceptions policy) lasting.others)
