use Rattle.std.proofs.Common.{◌≡◌, ℕ, List, not, take}
use Rattle.path_policies.specs.Lists.{is_listed, is_picked_issuer}
use Rattle.path_policies.specs.Sets.{has}
use Rattle.path_policies.proofs.lists.mapped_outside.Given as goal

abbrev pub invariant-loop-mapping : goal.invariant-loop-mapping
invariant-loop-mapping l = (policy : List ℕ) → is_listed l.picked.items policy ≡ is_picked_issuer (take l.mapping-index l.mappings) (λ issuer. not (has l.set issuer)) policy
