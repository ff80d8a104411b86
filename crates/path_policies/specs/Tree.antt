-- The processing of policies as RFC 5280 has it, with a valid_policy_tree and counters: 6.1.2 (a) and (d) to (f), 6.1.3 (d) and (e),
-- 6.1.4 (b) and (h) to (j), 6.1.5 (a) and (b). A tree that is NULL is None.
use Rattle.std.specs.Prelude.{◌+◌, ◌-◌, ◌||◌, ◌&&◌, ℕ, zero, suc, List, [], ◌∷◌, ◌++◌, map, filter, fold, Bool, not, cond, Option, Some, None, option_map, option_and_then, bytes_eq, nat_lt}
use Rattle.std.specs.List.{list_any}
use Rattle.cert_policies.specs.PolicyExtensions.{PolicyExtensions, PolicyMapping}
use Rattle.path_policies.specs.Query.{PolicyQuery, any_policy, count, certificate_numbered}
use Rattle.path_policies.specs.Nodes.{PolicyTree, expected_policy_set, children, is_of, expects, leaf, with_children, with_child, keep_children, with_expected, where_true, at_depth, some_at, without_childless}

-- The counters.

-- 6.1.2 (d) to (f): 0 if the initial indicator is set, and otherwise n + 1
abbrev pub initial_counter : PolicyQuery → Bool → ℕ
initial_counter q indicator = cond indicator 0 (count q + 1)

-- 6.1.4 (h): if the certificate is not self-issued, a counter that is not 0 is decremented by 1
abbrev pub counted_down : Bool → ℕ → ℕ
counted_down self_issued counter = cond self_issued counter (counter - 1)

-- 6.1.4 (i) and (j): a number that is present and less than the counter is its new value
abbrev pub lowered : Option ℕ → ℕ → ℕ
lowered None counter = counter
lowered (Some number) counter = cond (nat_lt number counter) number counter

-- the counter for which certificates say these numbers, after the certificates 1 to k
abbrev pub counter_after : (PolicyExtensions → Option ℕ) → Bool → PolicyQuery → ℕ → ℕ
counter_after says indicator q zero = initial_counter q indicator
counter_after says indicator q (suc k) =
    let certificate = certificate_numbered q (suc k) in
    lowered (says certificate.extensions) (counted_down certificate.self_issued (counter_after says indicator q k))

-- the three counters at certificate j
abbrev pub explicit_policy : PolicyQuery → ℕ → ℕ
explicit_policy q j = counter_after (λ e. e.require_explicit_policy) q.require_explicit_policy q (j - 1)

abbrev pub policy_mapping : PolicyQuery → ℕ → ℕ
policy_mapping q j = counter_after (λ e. e.inhibit_policy_mapping) q.inhibit_policy_mapping q (j - 1)

abbrev pub inhibit_any_policy : PolicyQuery → ℕ → ℕ
inhibit_any_policy q j = counter_after (λ e. e.inhibit_any_policy) q.inhibit_any_policy q (j - 1)

-- 6.1.5 (b): a requireExplicitPolicy of 0 in the last certificate sets explicit_policy to 0
abbrev pub set_at_end : Option ℕ → ℕ → ℕ
set_at_end None counter = counter
set_at_end (Some zero) counter = 0
set_at_end (Some (suc number)) counter = counter

-- explicit_policy at the end: 6.1.5 (a), decremented by 1 if it is not 0, and (b)
abbrev pub explicit_policy_at_end : PolicyQuery → ℕ
explicit_policy_at_end q = set_at_end (certificate_numbered q (count q)).extensions.require_explicit_policy (explicit_policy q (count q) - 1)

-- The tree. Below, certificate i is certificate depth + 1, and depth is i-1.

-- 6.1.2 (a)
abbrev pub initial_tree : PolicyTree
initial_tree = leaf any_policy (any_policy ∷ [])

-- 6.1.3 (d) (1), for one policy P: (i) each node of depth i-1 that has P in its expected_policy_set gets a child node, and (ii) if there was
-- no match, the node of depth i-1 with the valid_policy anyPolicy
abbrev pub add_policy : ℕ → PolicyTree → List ℕ → PolicyTree
add_policy depth tree policy =
    let add = with_child (leaf policy (policy ∷ [])) in
    cond (some_at depth (expects policy) tree)
    (at_depth depth (where_true (expects policy) add) tree)
    (at_depth depth (where_true (is_of any_policy) add) tree)

-- (1), for each policy that is not anyPolicy
abbrev pub add_policies : ℕ → List (List ℕ) → PolicyTree → PolicyTree
add_policies depth policies tree = fold (add_policy depth) tree (filter (λ policy. not (bytes_eq any_policy policy)) policies)

-- (2), for one node of depth i-1: each value in its expected_policy_set that does not appear in a child node gets a child node
abbrev pub add_expected : PolicyTree → PolicyTree
add_expected u =
    let missing = filter (λ policy. not (list_any (is_of policy) (children u))) (expected_policy_set u) in
    with_children u (children u ++ map (λ policy. leaf policy (policy ∷ [])) missing)

-- (2) applies: the extension has anyPolicy, and inhibit_anyPolicy is greater than 0, or i < n and the certificate is self-issued
abbrev pub adds_expected : PolicyQuery → ℕ → List (List ℕ) → Bool
adds_expected q i policies =
    list_any (bytes_eq any_policy) policies
    && (nat_lt 0 (inhibit_any_policy q i) || (nat_lt i (count q) && (certificate_numbered q i).self_issued))

-- 6.1.3 (d), where the extension is present and the tree is not NULL: (1), (2), (3)
abbrev pub with_policies : PolicyQuery → ℕ → List (List ℕ) → PolicyTree → Option PolicyTree
with_policies q depth policies tree =
    let one = add_policies depth policies tree in
    without_childless depth (cond (adds_expected q (depth + 1) policies) (at_depth depth add_expected one) one)

-- 6.1.3 (d), and (e): without the extension the tree is NULL
abbrev pub process_policies : PolicyQuery → ℕ → Option (List (List ℕ)) → Option PolicyTree → Option PolicyTree
process_policies q depth None tree = None
process_policies q depth (Some policies) tree = option_and_then (with_policies q depth policies) tree

-- the subjectDomainPolicy values that are specified as equivalent to ID-P
abbrev pub subjects_of : List PolicyMapping → List ℕ → List (List ℕ)
subjects_of mappings policy = map (λ m. m.subject_domain_policy) (filter (λ m. bytes_eq policy m.issuer_domain_policy) mappings)

-- 6.1.4 (b) (1), for one ID-P, where policy_mapping is greater than 0: each node of depth i with the valid_policy ID-P expects the
-- equivalent policies; if there is none but there is one with anyPolicy, the node of depth i-1 with anyPolicy gets a child node
abbrev pub map_policy : ℕ → List PolicyMapping → PolicyTree → PolicyMapping → PolicyTree
map_policy depth mappings tree mapping =
    let policy = mapping.issuer_domain_policy in
    let expected = subjects_of mappings policy in
    cond (some_at (suc depth) (is_of policy) tree)
    (at_depth (suc depth) (where_true (is_of policy) (with_expected expected)) tree)
    (cond (some_at (suc depth) (is_of any_policy) tree)
    (at_depth depth (where_true (is_of any_policy) (with_child (leaf policy expected))) tree)
    tree)

-- 6.1.4 (b) (2), for one ID-P, where policy_mapping is 0: (i) each node of depth i with the valid_policy ID-P is deleted, and (ii) the nodes
-- of depth i-1 or less without any child nodes
abbrev pub delete_policy : ℕ → PolicyTree → PolicyMapping → Option PolicyTree
delete_policy depth tree mapping =
    without_childless depth (at_depth depth (keep_children (λ child. not (is_of mapping.issuer_domain_policy child))) tree)

-- 6.1.4 (b)
abbrev pub map_policies : PolicyQuery → ℕ → List PolicyMapping → Option PolicyTree → Option PolicyTree
map_policies q depth mappings tree =
    cond (nat_lt 0 (policy_mapping q (depth + 1)))
    (option_map (λ t. fold (map_policy depth mappings) t mappings) tree)
    (fold (λ left mapping. option_and_then (λ t. delete_policy depth t mapping) left) tree mappings)

-- 6.1.3 (d) and (e) of certificate depth + 1
abbrev pub tree_with : PolicyQuery → ℕ → Option PolicyTree → Option PolicyTree
tree_with q depth tree = process_policies q depth (certificate_numbered q (depth + 1)).extensions.policies tree

-- and 6.1.4 (b), unless it is the last certificate
abbrev pub tree_prepared : PolicyQuery → ℕ → Option PolicyTree → Option PolicyTree
tree_prepared q depth tree =
    cond (nat_lt (depth + 1) (count q)) (map_policies q depth (certificate_numbered q (depth + 1)).extensions.mappings tree) tree

-- the tree after the certificates 1 to i
abbrev pub tree_after : PolicyQuery → ℕ → Option PolicyTree
tree_after q zero = Some initial_tree
tree_after q (suc depth) = tree_prepared q depth (tree_with q depth (tree_after q depth))

-- the tree at 6.1.3 (f) of certificate j
abbrev pub tree_at : PolicyQuery → ℕ → Option PolicyTree
tree_at q j = tree_with q (j - 1) (tree_after q (j - 1))
