use Rattle.std.proofs.Common.{◌≡◌, ◌&&◌, ℕ, List, not, take}
use Rattle.path_policies.specs.Lists.{is_mapped_by}
use Rattle.path_policies.specs.Sets.{has}
use Rattle.path_policies.proofs.lists.remove_mapped.Given as goal

abbrev pub invariant-loop-mapping : goal.invariant-loop-mapping
invariant-loop-mapping l = (policy : List ℕ) → has l.set policy ≡ (not (is_mapped_by (take l.mapping-index l.mappings) policy) && has l.initial.set policy)
