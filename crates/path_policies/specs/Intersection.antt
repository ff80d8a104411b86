-- The end of the processing as RFC 5280 has it, 6.1.5 (g): what the user's policies leave of the valid_policy_tree.
use Rattle.std.specs.Prelude.{◌-◌, ◌||◌, ◌&&◌, ℕ, zero, suc, List, [], ◌∷◌, ◌++◌, map, filter, Bool, false, not, cond, Option, option_and_then, bytes_eq}
use Rattle.std.specs.List.{list_any}
use Rattle.path_policies.specs.Query.{PolicyQuery, any_policy, count}
use Rattle.path_policies.specs.Nodes.{PolicyTree, valid_policy, children, is_of, leaf, with_children, keep_children, where_true, at_depth, some_at, without_childless}

-- Below, depth is n-1, and the valid_policy_node_set (iii) 1 has the nodes whose parent has the valid_policy anyPolicy.

-- (iii) 2: the nodes of the set that are neither in the user-initial-policy-set nor anyPolicy are deleted, with all below them. Here
-- those whose parent has this depth, then those whose parent is above a depth.
abbrev pub is_chosen : List (List ℕ) → PolicyTree → Bool
is_chosen user u = is_of any_policy u || list_any (bytes_eq (valid_policy u)) user

abbrev pub choose_at : List (List ℕ) → ℕ → PolicyTree → PolicyTree
choose_at user depth tree = at_depth depth (where_true (is_of any_policy) (keep_children (is_chosen user))) tree

abbrev pub choose_above : List (List ℕ) → ℕ → PolicyTree → PolicyTree
choose_above user zero tree = tree
choose_above user (suc depth) tree = choose_above user depth (choose_at user depth tree)

-- some node of the set whose parent has this depth has the policy, or one whose parent is above a depth
abbrev pub is_in_set_at : List ℕ → ℕ → PolicyTree → Bool
is_in_set_at policy depth tree = some_at depth (λ u. is_of any_policy u && list_any (is_of policy) (children u)) tree

abbrev pub is_in_set : List ℕ → ℕ → PolicyTree → Bool
is_in_set policy zero tree = false
is_in_set policy (suc depth) tree = is_in_set_at policy depth tree || is_in_set policy depth tree

-- (iii) 3 b: the node of depth n-1 with anyPolicy gets a child node for each of these policies
abbrev pub add_missing : List (List ℕ) → PolicyTree → PolicyTree
add_missing missing u = with_children u (children u ++ map (λ policy. leaf policy (policy ∷ [])) missing)

-- (iii) 3 b and c, c: the node of depth n with anyPolicy is deleted
abbrev pub replace_any : ℕ → List (List ℕ) → PolicyTree → PolicyTree
replace_any depth missing tree =
    at_depth depth (keep_children (λ child. not (is_of any_policy child)))
    (at_depth depth (where_true (is_of any_policy) (add_missing missing)) tree)

-- (iii): 1, the set of the tree at the beginning, 2, 3, if there is a node of depth n with anyPolicy, and 4
abbrev pub chosen_tree : List (List ℕ) → ℕ → PolicyTree → Option PolicyTree
chosen_tree user depth tree =
    let missing = filter (λ policy. not (is_in_set policy (suc depth) tree)) user in
    let chosen = choose_above user (suc depth) tree in
    without_childless depth (cond (some_at (suc depth) (is_of any_policy) chosen) (replace_any depth missing chosen) chosen)

-- (g): (i) NULL stays NULL, (ii) if the user takes any policy the tree stays, (iii)
abbrev pub intersection : PolicyQuery → Option PolicyTree → Option PolicyTree
intersection q tree =
    cond (list_any (bytes_eq any_policy) q.initial_policies) tree
    (option_and_then (chosen_tree q.initial_policies (count q - 1)) tree)
