-- No node ends above the last depth: each node above it has a child.
use Rattle.std.proofs.Common.{◌≡◌, ◌<◌, ◌+◌, ℕ, zero, suc, List, [], ◌∷◌, Bool, not, cond, map, fold, length, Option, Some, None, arith, refl, sym, subst, inl, inr}
use Rattle.std.specs.Prelude.{nat_lt, option_map, option_and_then}
use Rattle.std.specs.List.{Contains}
use Rattle.std.proofs.lemmas.Bool.{cases_Bool, cases_lt}
use Rattle.cert_policies.specs.PolicyExtensions.{PolicyMapping}
use Rattle.path_policies.specs.Query.{PolicyQuery, any_policy, count, certificate_numbered}
use Rattle.path_policies.specs.Nodes.{PolicyTree, children, has_children, is_of, leaf, with_children, with_child, with_expected, keep_children, where_true, at_depth, some_at, without_childless}
use Rattle.path_policies.specs.Tree.{add_policies, add_expected, adds_expected, policy_mapping, subjects_of, process_policies, map_policy, delete_policy, map_policies, tree_with, tree_prepared, tree_after, initial_tree}
use Rattle.path_policies.specs.TreeLaws.{IsNodeOf}
use Rattle.path_policies.proofs.TreeMembers.{in_map}
use Rattle.path_policies.proofs.Depths.{unchanged, child_given, left_child}
use Rattle.path_policies.proofs.Growing.{grows_where}

-- each node above this depth has a child
abbrev pub HaveChildrenAbove : ℕ → PolicyTree → Type 0
HaveChildrenAbove depth t = (above : List (List ℕ)) (u : PolicyTree) → length above < depth → IsNodeOf t above u → (c : PolicyTree) × Contains (children u) c

-- where childless nodes were deleted
left_have : (depth : ℕ) (t left : PolicyTree) → without_childless depth t ≡ Some left → HaveChildrenAbove (suc depth) left
left_have zero t left e [] u h is = left_child [] t left u e is
left_have zero t left e (policy ∷ above) u h is = absurd (omega arith)
left_have (suc depth) t left e above u h is = elim (cases_lt (length above) (suc depth)) [
  | inl less ↦ left_have depth (at_depth depth (keep_children has_children) t) left e above u less is
  | inr last ↦
      let same : suc depth ≡ length above = omega arith in
      left_child above t left u (subst (λ n. without_childless n t ≡ Some left) same e) is
]

-- where the nodes at that depth were changed
changed_have : (depth : ℕ) (change : PolicyTree → PolicyTree) (t : PolicyTree) → HaveChildrenAbove depth t → HaveChildrenAbove depth (at_depth depth change t)
changed_have zero change t have above u h is = absurd (omega arith)
changed_have (suc depth) change t have above u h is =
    let below = λ (x : PolicyTree). with_children x (map change (children x)) in
    elim (cases_lt (length above) depth) [
      | inl less ↦ changed_have depth below t (λ front x short there. have front x (omega arith) there) above u less is
      | inr last ↦
          let same : depth ≡ length above = omega arith in
          let old = unchanged above below t u (subst (λ n. IsNodeOf (at_depth n below t) above u) same is) in
          let c = have above old.0 h old.1 in (
            change c.0,
            subst (λ x. Contains (children x) (change c.0)) (sym old.2)
                (child_given (map change (children old.0)) old.0 (change c.0) (in_map change (children old.0) c.0 c.1)),
          )
    ]

-- where nodes got a child
given_have : (depth : ℕ) (test : PolicyTree → Bool) (child t : PolicyTree) → HaveChildrenAbove (suc depth) t
    → HaveChildrenAbove (suc depth) (at_depth depth (where_true test (with_child child)) t)
given_have depth test child t have above u h is = elim (cases_lt (length above) depth) [
  | inl less ↦ changed_have depth (where_true test (with_child child)) t (λ front x short there. have front x (omega arith) there) above u less is
  | inr last ↦
      let old = (grows_where depth test child t).each above u (omega arith) is in
      let c = have above old.0 h old.1 in
      (c.0, (old.2).kept c.0 c.1)
]

-- the same of a tree that may be NULL
abbrev pub IsBranching : ℕ → Option PolicyTree → Type 0
IsBranching depth tree = (t : PolicyTree) → tree ≡ Some t → HaveChildrenAbove depth t

there_branching : (depth : ℕ) (t : PolicyTree) → HaveChildrenAbove depth t → IsBranching depth (Some t)
there_branching depth t have other e = let same : t ≡ other = cc in subst (HaveChildrenAbove depth) same have

module _ (i : ℕ) where
  one_mapped : (mappings : List PolicyMapping) (m : PolicyMapping) (t : PolicyTree) → HaveChildrenAbove (suc i) t
      → HaveChildrenAbove (suc i) (map_policy i mappings t m)
  one_mapped mappings m t have =
      let policy = m.issuer_domain_policy in
      let expected = subjects_of mappings policy in
      let expecting = at_depth (suc i) (where_true (is_of policy) (with_expected expected)) t in
      let made = at_depth i (where_true (is_of any_policy) (with_child (leaf policy expected))) t in
      let otherwise = cond (some_at (suc i) (is_of any_policy) t) made t in
      elim (cases_Bool (some_at (suc i) (is_of policy) t)) [
        | inl there ↦ subst (λ b. HaveChildrenAbove (suc i) (cond b expecting otherwise)) (sym there)
            (changed_have (suc i) (where_true (is_of policy) (with_expected expected)) t have)
        | inr not_there ↦ subst (λ b. HaveChildrenAbove (suc i) (cond b expecting otherwise)) (sym not_there)
            (elim (cases_Bool (some_at (suc i) (is_of any_policy) t)) [
              | inl any ↦ subst (λ b. HaveChildrenAbove (suc i) (cond b made t)) (sym any) (given_have i (is_of any_policy) (leaf policy expected) t have)
              | inr no_any ↦ subst (λ b. HaveChildrenAbove (suc i) (cond b made t)) (sym no_any) have
            ])
      ]

  all_mapped : (mappings rest : List PolicyMapping) (t : PolicyTree) → HaveChildrenAbove (suc i) t
      → HaveChildrenAbove (suc i) (fold (map_policy i mappings) t rest)
  all_mapped mappings [] t have = have
  all_mapped mappings (m ∷ rest) t have = all_mapped mappings rest (map_policy i mappings t m) (one_mapped mappings m t have)

  mapped_branching : (mappings : List PolicyMapping) (tree : Option PolicyTree) → IsBranching (suc i) tree
      → IsBranching (suc i) (option_map (λ t. fold (map_policy i mappings) t mappings) tree)
  mapped_branching mappings None have = λ t e. cc
  mapped_branching mappings (Some t) have =
      there_branching (suc i) (fold (map_policy i mappings) t mappings) (all_mapped mappings mappings t (have t refl))

  one_deleted : (m : PolicyMapping) (tree : Option PolicyTree) → IsBranching (suc i) (option_and_then (λ t. delete_policy i t m) tree)
  one_deleted m None t e = cc
  one_deleted m (Some old) t e =
      left_have i (at_depth i (keep_children (λ child. not (is_of m.issuer_domain_policy child))) old) t e

  deleted_branching : (rest : List PolicyMapping) (tree : Option PolicyTree) → IsBranching (suc i) tree
      → IsBranching (suc i) (fold (λ left mapping. option_and_then (λ t. delete_policy i t mapping) left) tree rest)
  deleted_branching [] tree have = have
  deleted_branching (m ∷ rest) tree have = deleted_branching rest (option_and_then (λ t. delete_policy i t m) tree) (one_deleted m tree)

  module _ (q : PolicyQuery) where
    with_branching : (policies : Option (List (List ℕ))) (tree : Option PolicyTree) → IsBranching (suc i) (process_policies q i policies tree)
    with_branching None tree t e = cc
    with_branching (Some policies) None t e = cc
    with_branching (Some policies) (Some old) t e =
        let one = add_policies i policies old in
        left_have i (cond (adds_expected q (i + 1) policies) (at_depth i add_expected one) one) t e

    prepared_branching : (tree : Option PolicyTree) → IsBranching (suc i) tree → IsBranching (suc i) (tree_prepared q i tree)
    prepared_branching tree have =
        let mappings = (certificate_numbered q (i + 1)).extensions.mappings in
        let mapped = option_map (λ t. fold (map_policy i mappings) t mappings) tree in
        let deleted = fold (λ left mapping. option_and_then (λ t. delete_policy i t mapping) left) tree mappings in
        elim (cases_Bool (nat_lt (i + 1) (count q))) [
          | inl inner ↦ subst (λ b. IsBranching (suc i) (cond b (map_policies q i mappings tree) tree)) (sym inner)
              (elim (cases_Bool (nat_lt 0 (policy_mapping q (i + 1)))) [
                | inl positive ↦ subst (λ b. IsBranching (suc i) (cond b mapped deleted)) (sym positive) (mapped_branching mappings tree have)
                | inr is_zero ↦ subst (λ b. IsBranching (suc i) (cond b mapped deleted)) (sym is_zero) (deleted_branching mappings tree have)
              ])
          | inr last ↦ subst (λ b. IsBranching (suc i) (cond b (map_policies q i mappings tree) tree)) (sym last) have
        ]

pub after_branching : (q : PolicyQuery) (i : ℕ) → IsBranching i (tree_after q i)
after_branching q zero = there_branching 0 initial_tree (λ above u h is. absurd (omega arith))
after_branching q (suc i) =
    prepared_branching i q (tree_with q i (tree_after q i))
    (with_branching i q (certificate_numbered q (i + 1)).extensions.policies (tree_after q i))
