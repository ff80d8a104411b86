use Rattle.std.proofs.Common.{◌≡◌, ℕ, List, take}
use Rattle.path_policies.specs.Lists.{is_listed, is_issuer_of}
use Rattle.path_policies.specs.Sets.{lasts}
use Rattle.path_policies.proofs.lasting.Lasting.issuers.Given as goal

abbrev pub invariant-loop-mapping : goal.invariant-loop-mapping
invariant-loop-mapping l = (policy : List ℕ) → is_listed l.picked.items policy ≡ is_issuer_of (take l.mapping-index l.mappings) (lasts l.self) policy
