-- What the user's policies leave of a tree: the branches that are chosen at each depth.
use Rattle.std.proofs.Common.{◌≡◌, ◌≢◌, ◌⊎◌, ◌<◌, ◌≤◌, ◌&&◌, ℕ, zero, suc, List, [], ◌∷◌, ◌++◌, Bool, true, not, cond, map, filter, length, arith, refl, ap, sym, ◌∙◌, subst, inl, inr}
use Rattle.std.specs.List.{Contains, list_any}
use Rattle.std.specs.Str.{bytes_eq}
use Rattle.std.proofs.lemmas.Bool.{cases_Bool, cases_lt, false≢true, or_cases, or_left, or_right, and_parts}
use Rattle.std.proofs.lemmas.List.Elements.{Contains-append_left, Contains-append_right, Contains-append_cases}
use Rattle.path_policies.specs.Query.{any_policy}
use Rattle.path_policies.specs.Nodes.{PolicyTree, valid_policy, children, is_of, leaf, keep_children, where_true, at_depth}
use Rattle.path_policies.specs.Intersection.{is_chosen, choose_at, choose_above, is_in_set_at, is_in_set, add_missing, replace_any}
use Rattle.path_policies.specs.TreeLaws.{IsNodeOf}
use Rattle.path_policies.proofs.TreeMembers.{in_map, from_map, in_filter, from_filter, some_passes, same, equal, among, found, differ, unequal}
use Rattle.path_policies.proofs.Depths.{unchanged, changed, some_there, child_given, given_child, kept_was, was_kept}

module _ (user : List (List ℕ)) where
  abbrev pub IsChosen : List ℕ → Type 0
  IsChosen policy = (policy ≡ any_policy) ⊎ Contains user policy

  -- the policy below that one at this depth is chosen, if that one is anyPolicy
  abbrev pub ChosenAt : ℕ → List (List ℕ) → Type 0
  ChosenAt depth [] = Unit {0}
  ChosenAt depth (policy ∷ []) = Unit {0}
  ChosenAt depth (policy ∷ parent ∷ above) = (length above ≡ depth → parent ≡ any_policy → IsChosen policy) × ChosenAt depth (parent ∷ above)

  chosen_shallow : (depth : ℕ) (branch : List (List ℕ)) → length branch ≤ suc depth → ChosenAt depth branch
  chosen_shallow depth [] h = tt
  chosen_shallow depth (policy ∷ []) h = tt
  chosen_shallow depth (policy ∷ parent ∷ above) h = (λ e. absurd (omega arith), chosen_shallow depth (parent ∷ above) (omega arith))

  chosen_is : (u : PolicyTree) → is_chosen user u ≡ true → IsChosen (valid_policy u)
  chosen_is u h = elim (or_cases (is_of any_policy u) (list_any (bytes_eq (valid_policy u)) user) h) [
    | inl any ↦ inl (sym (same any_policy (valid_policy u) any))
    | inr own ↦ inr (among user (valid_policy u) own)
  ]

  is_chosen_so : (u : PolicyTree) → IsChosen (valid_policy u) → is_chosen user u ≡ true
  is_chosen_so u (inl any) = or_left (is_of any_policy u) (list_any (bytes_eq (valid_policy u)) user) (equal any_policy (valid_policy u) (sym any))
  is_chosen_so u (inr own) = or_right (is_of any_policy u) (list_any (bytes_eq (valid_policy u)) user) (found user (valid_policy u) own)

  abbrev choose : PolicyTree → PolicyTree
  choose = where_true (is_of any_policy) (keep_children (is_chosen user))

  choose_policy : (u : PolicyTree) → valid_policy (choose u) ≡ valid_policy u
  choose_policy u = elim (cases_Bool (is_of any_policy u)) [
    | inl any ↦ subst (λ b. valid_policy (cond b (keep_children (is_chosen user) u) u) ≡ valid_policy u) (sym any) refl
    | inr other ↦ subst (λ b. valid_policy (cond b (keep_children (is_chosen user) u) u) ≡ valid_policy u) (sym other) refl
  ]

  choose_children : (u c : PolicyTree) → Contains (children (choose u)) c → Contains (children u) c × (valid_policy u ≡ any_policy → IsChosen (valid_policy c))
  choose_children u c h = elim (cases_Bool (is_of any_policy u)) [
    | inl any ↦
        let kept = subst (λ b. Contains (children (cond b (keep_children (is_chosen user) u) u)) c) any h in
        let parts = from_filter (is_chosen user) (children u) c (given_child (filter (is_chosen user) (children u)) u c kept) in
        (parts.0, λ e. chosen_is c parts.1)
    | inr other ↦ (
      subst (λ b. Contains (children (cond b (keep_children (is_chosen user) u) u)) c) other h,
      λ e. absurd (false≢true (sym other ∙ equal any_policy (valid_policy u) (sym e))),
    )
  ]

  children_chosen : (u c : PolicyTree) → Contains (children u) c → (valid_policy u ≡ any_policy → IsChosen (valid_policy c)) → Contains (children (choose u)) c
  children_chosen u c h chosen = elim (cases_Bool (is_of any_policy u)) [
    | inl any ↦
        let passes = is_chosen_so c (chosen (sym (same any_policy (valid_policy u) any))) in
        subst (λ b. Contains (children (cond b (keep_children (is_chosen user) u) u)) c) (sym any)
        (child_given (filter (is_chosen user) (children u)) u c (in_filter (is_chosen user) (children u) c h passes))
    | inr other ↦ subst (λ b. Contains (children (cond b (keep_children (is_chosen user) u) u)) c) (sym other) h
  ]

  -- at one depth

  chosen_last : (above : List (List ℕ)) (parent : List ℕ) (t u : PolicyTree) → IsNodeOf (choose_at user (length above) t) (parent ∷ above) u
      → IsNodeOf t (parent ∷ above) u × ChosenAt (length above) (valid_policy u ∷ parent ∷ above)
  chosen_last above parent t u is =
      let old = unchanged above choose t is.0 is.1 in
      let named : valid_policy old.0 ≡ parent = sym (choose_policy old.0) ∙ (sym (ap valid_policy old.2) ∙ is.2) in
      let child = choose_children old.0 u (subst (λ x. Contains (children x) u) old.2 is.3) in
      ((old.0, old.1, named, child.0), ((λ d any. child.1 (named ∙ any)), chosen_shallow (length above) (parent ∷ above) (omega arith)))

  last_chosen : (above : List (List ℕ)) (parent : List ℕ) (t u : PolicyTree) → IsNodeOf t (parent ∷ above) u
      → ChosenAt (length above) (valid_policy u ∷ parent ∷ above) → IsNodeOf (choose_at user (length above) t) (parent ∷ above) u
  last_chosen above parent t u is chosen = (
    choose is.0,
    changed above choose t is.0 is.1,
    choose_policy is.0 ∙ is.2,
    children_chosen is.0 u is.3 (λ any. chosen.0 refl (sym is.2 ∙ any)),
  )

  chosen_node : (depth : ℕ) (above : List (List ℕ)) (parent : List ℕ) (t u : PolicyTree) → depth ≤ length above
      → IsNodeOf (choose_at user depth t) (parent ∷ above) u → IsNodeOf t (parent ∷ above) u × ChosenAt depth (valid_policy u ∷ parent ∷ above)
  chosen_node zero [] parent t u h is = chosen_last [] parent t u is
  chosen_node (suc depth) [] parent t u h is = absurd (omega arith)
  chosen_node depth (next ∷ above) parent t u h is = elim (cases_lt depth (length (next ∷ above))) [
    | inl deeper ↦
        let up = chosen_node depth above next t is.0 (omega arith) is.1 in
        ((is.0, up.0, is.2, is.3), ((λ d any. absurd (omega arith)), subst (λ p. ChosenAt depth (p ∷ next ∷ above)) is.2 up.1))
    | inr last ↦
        let at : depth ≡ length (next ∷ above) = omega arith in
        let r = chosen_last (next ∷ above) parent t u (subst (λ n. IsNodeOf (choose_at user n t) (parent ∷ next ∷ above) u) at is) in
        (r.0, subst (λ n. ChosenAt n (valid_policy u ∷ parent ∷ next ∷ above)) (sym at) r.1)
  ]

  node_chosen : (depth : ℕ) (above : List (List ℕ)) (parent : List ℕ) (t u : PolicyTree) → depth ≤ length above
      → IsNodeOf t (parent ∷ above) u → ChosenAt depth (valid_policy u ∷ parent ∷ above) → IsNodeOf (choose_at user depth t) (parent ∷ above) u
  node_chosen zero [] parent t u h is chosen = last_chosen [] parent t u is chosen
  node_chosen (suc depth) [] parent t u h is chosen = absurd (omega arith)
  node_chosen depth (next ∷ above) parent t u h is chosen = elim (cases_lt depth (length (next ∷ above))) [
    | inl deeper ↦
        let up = node_chosen depth above next t is.0 (omega arith) is.1 (subst (λ p. ChosenAt depth (p ∷ next ∷ above)) (sym is.2) chosen.1) in
        (is.0, up, is.2, is.3)
    | inr last ↦
        let at : depth ≡ length (next ∷ above) = omega arith in
        subst (λ n. IsNodeOf (choose_at user n t) (parent ∷ next ∷ above) u) (sym at)
        (last_chosen (next ∷ above) parent t u is (subst (λ n. ChosenAt n (valid_policy u ∷ parent ∷ next ∷ above)) at chosen))
  ]

  -- at each depth above one

  pub above_chosen : (depth : ℕ) (above : List (List ℕ)) (parent : List ℕ) (t u : PolicyTree) → depth ≤ suc (length above)
      → IsNodeOf (choose_above user depth t) (parent ∷ above) u
      → IsNodeOf t (parent ∷ above) u × ((k : ℕ) → k < depth → ChosenAt k (valid_policy u ∷ parent ∷ above))
  above_chosen zero above parent t u h is = (is, λ k less. absurd (omega arith))
  above_chosen (suc depth) above parent t u h is =
      let up = above_chosen depth above parent (choose_at user depth t) u (omega arith) is in
      let here = chosen_node depth above parent t u (omega arith) up.0 in (
        here.0,
        λ k less. elim (cases_lt k depth) [
          | inl before ↦ up.1 k before
          | inr last ↦
              let e : depth ≡ k = omega arith in
              subst (λ n. ChosenAt n (valid_policy u ∷ parent ∷ above)) e here.1
        ],
      )

  pub chosen_above : (depth : ℕ) (above : List (List ℕ)) (parent : List ℕ) (t u : PolicyTree) → depth ≤ suc (length above)
      → IsNodeOf t (parent ∷ above) u → ((k : ℕ) → ChosenAt k (valid_policy u ∷ parent ∷ above))
      → IsNodeOf (choose_above user depth t) (parent ∷ above) u
  chosen_above zero above parent t u h is chosen = is
  chosen_above (suc depth) above parent t u h is chosen =
      chosen_above depth above parent (choose_at user depth t) u (omega arith)
      (node_chosen depth above parent t u (omega arith) is (chosen depth)) chosen

-- the policies of the children of nodes with anyPolicy

pub set_at : (policy : List ℕ) (depth : ℕ) (t : PolicyTree) → is_in_set_at policy depth t ≡ true
    → (above : List (List ℕ)) × (u : PolicyTree) × (length above ≡ depth) × IsNodeOf t (any_policy ∷ above) u × (valid_policy u ≡ policy)
set_at policy depth t h =
    let test = λ (x : PolicyTree). is_of any_policy x && list_any (is_of policy) (children x) in
    let some = some_there depth test t h in
    let parts = and_parts (is_of any_policy some.1) (list_any (is_of policy) (children some.1)) some.4 in
    let child = some_passes (is_of policy) (children some.1) parts.1 in (
      some.0,
      child.0,
      some.2,
      (some.1, some.3, sym (same any_policy (valid_policy some.1) parts.0), child.1),
      sym (same policy (valid_policy child.0) child.2),
    )

pub in_set : (policy : List ℕ) (depth : ℕ) (t : PolicyTree) → is_in_set policy depth t ≡ true
    → (above : List (List ℕ)) × (u : PolicyTree) × (length above < depth) × IsNodeOf t (any_policy ∷ above) u × (valid_policy u ≡ policy)
in_set policy zero t h = absurd (false≢true h)
in_set policy (suc depth) t h = elim (or_cases (is_in_set_at policy depth t) (is_in_set policy depth t) h) [
  | inl at ↦ let r = set_at policy depth t at in (r.0, r.1, (let d = r.2 in omega arith), r.3, r.4)
  | inr before ↦ let r = in_set policy depth t before in (r.0, r.1, (let d = r.2 in omega arith), r.3, r.4)
]

-- where the nodes with anyPolicy are replaced

module _ (missing : List (List ℕ)) where
  abbrev fresh : List ℕ → PolicyTree
  fresh policy = leaf policy (policy ∷ [])

  abbrev add : PolicyTree → PolicyTree
  add = where_true (is_of any_policy) (add_missing missing)

  add_policy_same : (u : PolicyTree) → valid_policy (add u) ≡ valid_policy u
  add_policy_same u = elim (cases_Bool (is_of any_policy u)) [
    | inl any ↦ subst (λ b. valid_policy (cond b (add_missing missing u) u) ≡ valid_policy u) (sym any) refl
    | inr other ↦ subst (λ b. valid_policy (cond b (add_missing missing u) u) ≡ valid_policy u) (sym other) refl
  ]

  added_child : (u c : PolicyTree) → Contains (children (add u)) c → Contains (children u) c ⊎ Contains missing (valid_policy c)
  added_child u c h = elim (cases_Bool (is_of any_policy u)) [
    | inl any ↦
        let here = subst (λ b. Contains (children (cond b (add_missing missing u) u)) c) any h in
        elim (Contains-append_cases (children u) (map fresh missing) c (given_child (children u ++ map fresh missing) u c here)) [
          | inl was ↦ inl was
          | inr new ↦ let p = from_map fresh missing c new in inr (subst (λ x. Contains missing x) (ap valid_policy p.2) p.1)
        ]
    | inr other ↦ inl (subst (λ b. Contains (children (cond b (add_missing missing u) u)) c) other h)
  ]

  child_stays : (u c : PolicyTree) → Contains (children u) c → Contains (children (add u)) c
  child_stays u c h = elim (cases_Bool (is_of any_policy u)) [
    | inl any ↦ subst (λ b. Contains (children (cond b (add_missing missing u) u)) c) (sym any)
        (child_given (children u ++ map fresh missing) u c (Contains-append_left (children u) (map fresh missing) c h))
    | inr other ↦ subst (λ b. Contains (children (cond b (add_missing missing u) u)) c) (sym other) h
  ]

  child_added : (u : PolicyTree) (policy : List ℕ) → valid_policy u ≡ any_policy → Contains missing policy → Contains (children (add u)) (fresh policy)
  child_added u policy any h =
      subst (λ b. Contains (children (cond b (add_missing missing u) u)) (fresh policy)) (sym (equal any_policy (valid_policy u) (sym any)))
      (child_given (children u ++ map fresh missing) u (fresh policy)
      (Contains-append_right (children u) (map fresh missing) (fresh policy) (in_map fresh missing policy h)))

  abbrev other_than_any : PolicyTree → Bool
  other_than_any child = not (is_of any_policy child)

  pub replaced : (above : List (List ℕ)) (parent : List ℕ) (t u : PolicyTree) → IsNodeOf (replace_any (length above) missing t) (parent ∷ above) u
      → (IsNodeOf t (parent ∷ above) u × (valid_policy u ≢ any_policy)) ⊎ Contains missing (valid_policy u)
  replaced above parent t u is =
      let kept = kept_was other_than_any parent above (at_depth (length above) add t) u is in
      let old = unchanged above add t kept.0.0 kept.0.1 in
      let named : valid_policy old.0 ≡ parent = sym (add_policy_same old.0) ∙ (sym (ap valid_policy old.2) ∙ kept.0.2) in
      elim (added_child old.0 u (subst (λ x. Contains (children x) u) old.2 kept.0.3)) [
        | inl was ↦ inl ((old.0, old.1, named, was), λ e. differ any_policy (valid_policy u) kept.1 (sym e))
        | inr new ↦ inr new
      ]

  pub not_replaced : (above : List (List ℕ)) (parent : List ℕ) (t u : PolicyTree) → IsNodeOf t (parent ∷ above) u → valid_policy u ≢ any_policy
      → IsNodeOf (replace_any (length above) missing t) (parent ∷ above) u
  not_replaced above parent t u is other =
      was_kept other_than_any parent above (at_depth (length above) add t) u
      (add is.0, changed above add t is.0 is.1, add_policy_same is.0 ∙ is.2, child_stays is.0 u is.3)
      (unequal any_policy (valid_policy u) (λ e. other (sym e)))

  pub replacing : (above : List (List ℕ)) (t : PolicyTree) (policy : List ℕ) (u : PolicyTree) → IsNodeOf t above u → valid_policy u ≡ any_policy
      → Contains missing policy → policy ≢ any_policy → IsNodeOf (replace_any (length above) missing t) (any_policy ∷ above) (fresh policy)
  replacing above t policy u is any h other =
      was_kept other_than_any any_policy above (at_depth (length above) add t) (fresh policy)
      (add u, changed above add t u is, add_policy_same u ∙ any, child_added u policy any h)
      (unequal any_policy policy (λ e. other (sym e)))
