use Rattle.std.proofs.Common.{◌≡◌, ◌||◌, ℕ, List, take}
use Rattle.path_policies.specs.Lists.{is_listed, is_subject_of}
use Rattle.path_policies.specs.Sets.{has}
use Rattle.path_policies.proofs.lists.subjects_of.Given as goal

abbrev pub invariant-loop-mapping : goal.invariant-loop-mapping
invariant-loop-mapping l = (policy : List ℕ) → is_listed l.picked.items policy ≡ is_subject_of (take l.mapping-index l.mappings) (λ issuer. has l.set issuer || l.all) policy
