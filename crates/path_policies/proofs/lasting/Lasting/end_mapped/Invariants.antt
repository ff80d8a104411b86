use Rattle.std.proofs.Common.{◌≡◌, ℕ, List, false, take, if◌then◌else◌}
use Rattle.path_policies.specs.Lists.{is_mapped_by}
use Rattle.path_policies.specs.Sets.{lasts}
use Rattle.path_policies.proofs.lasting.Lasting.end_mapped.Given as goal

abbrev pub invariant-loop-mapping : goal.invariant-loop-mapping
invariant-loop-mapping l = (policy : List ℕ) → lasts l.self policy ≡ (if is_mapped_by (take l.mapping-index l.mappings) policy then false else lasts l.initial.self policy)
