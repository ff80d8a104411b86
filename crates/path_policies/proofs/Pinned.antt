-- Trees of small paths, as RFC 5280 has them.
use Rattle.std.proofs.Common.{◌≡◌, ℕ, List, [], ◌∷◌, true, false, Option, Some, None, refl}
use Rattle.cert_policies.specs.PolicyExtensions.{PolicyMapping}
use Rattle.path_policies.specs.Query.{PolicyQuery, PolicyCertificate, any_policy}
use Rattle.path_policies.specs.Nodes.{PolicyTree, node, none, more, leaf}
use Rattle.path_policies.specs.Tree.{explicit_policy_at_end, tree_after}
use Rattle.path_policies.specs.Intersection.{intersection}

abbrev gold : List ℕ
gold = 1 ∷ []

abbrev silver : List ℕ
silver = 2 ∷ []

abbrev certificate : List (List ℕ) → List PolicyMapping → Option ℕ → PolicyCertificate
certificate policies mappings inhibit_policy_mapping = record {
  self_issued = false;
  extensions = record {
    policies = Some policies;
    mappings = mappings;
    require_explicit_policy = None;
    inhibit_policy_mapping = inhibit_policy_mapping;
    inhibit_any_policy = None;
  };
}

abbrev path : List PolicyCertificate → List (List ℕ) → PolicyQuery
path certificates user = record {
  certificates = certificates;
  initial_policies = user;
  inhibit_policy_mapping = false;
  require_explicit_policy = false;
  inhibit_any_policy = false;
}

abbrev gold_to_silver : List PolicyMapping
gold_to_silver = record { issuer_domain_policy = gold; subject_domain_policy = silver } ∷ []

-- the first certificate states gold and anyPolicy and maps gold to silver, and the second states silver: the node of anyPolicy goes
abbrev mapped : PolicyQuery
mapped = path (certificate (gold ∷ any_policy ∷ []) gold_to_silver None ∷ certificate (silver ∷ []) [] None ∷ []) (gold ∷ [])

abbrev mapped_tree : PolicyTree
mapped_tree =
    node any_policy (any_policy ∷ [])
    (more (node gold (silver ∷ []) (more (leaf silver (silver ∷ [])) none)) none)

mapped_after : tree_after mapped 2 ≡ Some mapped_tree
mapped_after = refl

-- gold is a policy of the user, and silver is not
mapped_stays : intersection mapped (tree_after mapped 2) ≡ Some mapped_tree
mapped_stays = refl

not_silver : intersection (record mapped { initial_policies = silver ∷ [] }) (tree_after mapped 2) ≡ None
not_silver = refl

-- the first certificate states anyPolicy alone, and maps gold to silver: gold comes below anyPolicy
abbrev any_mapped : PolicyQuery
any_mapped = path (certificate (any_policy ∷ []) gold_to_silver None ∷ certificate (silver ∷ []) [] None ∷ []) (gold ∷ [])

any_mapped_after : tree_after any_mapped 2 ≡ Some mapped_tree
any_mapped_after = refl

-- where mapping is inhibited the node of a mapped policy is deleted
abbrev inhibited : PolicyQuery
inhibited = record (path (certificate (gold ∷ []) gold_to_silver None ∷ certificate (gold ∷ []) [] None ∷ []) (gold ∷ [])) { inhibit_policy_mapping = true }

inhibited_after : tree_after inhibited 1 ≡ None
inhibited_after = refl

-- anyPolicy at the end is replaced by the user's policies
abbrev any_at_end : PolicyQuery
any_at_end = path (certificate (any_policy ∷ []) [] None ∷ []) (gold ∷ [])

any_replaced : intersection any_at_end (tree_after any_at_end 1) ≡ Some (node any_policy (any_policy ∷ []) (more (leaf gold (gold ∷ [])) none))
any_replaced = refl

-- without a number no counter reaches 0
not_required : explicit_policy_at_end any_at_end ≡ 1
not_required = refl
