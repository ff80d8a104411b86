-- The nodes of one depth: what is done to them, whether some passes a test, and those that are left when childless ones are deleted.
use Rattle.std.proofs.Common.{◌≡◌, ℕ, zero, suc, List, [], ◌∷◌, Bool, true, false, cond, map, filter, length, Some, None, refl, ap, sym, ◌∙◌, subst}
use Rattle.std.specs.List.{Contains, list_any}
use Rattle.std.proofs.lemmas.Bool.{false≢true}
use Rattle.path_policies.specs.Nodes.{PolicyTree, PolicyTrees, none, more, valid_policy, listed, trees_of, children, has_children, with_children, keep_children, at_depth, some_at, without_childless}
use Rattle.path_policies.specs.TreeLaws.{IsNodeOf}
use Rattle.path_policies.proofs.TreeMembers.{in_map, from_map, in_filter, from_filter, some_passes, passed_by}

pub listed-trees_of : (all : List PolicyTree) → listed (trees_of all) ≡ all
listed-trees_of [] = refl
listed-trees_of (child ∷ others) = ap (λ l. child ∷ l) (listed-trees_of others)

pub trees_of-listed : (below : PolicyTrees) → trees_of (listed below) ≡ below
trees_of-listed none = refl
trees_of-listed (more child others) = ap (λ l. more child l) (trees_of-listed others)

-- the children of a node that was given others
pub child_given : (all : List PolicyTree) (u c : PolicyTree) → Contains all c → Contains (children (with_children u all)) c
child_given all u c h = subst (λ l. Contains l c) (sym (listed-trees_of all)) h

pub given_child : (all : List PolicyTree) (u c : PolicyTree) → Contains (children (with_children u all)) c → Contains all c
given_child all u c h = subst (λ l. Contains l c) (listed-trees_of all) h

-- a change at one depth: each node there was one before, and each that was there is changed

abbrev below_changed : (PolicyTree → PolicyTree) → PolicyTree → PolicyTree
below_changed change u = with_children u (map change (children u))

pub unchanged : (above : List (List ℕ)) (change : PolicyTree → PolicyTree) (t u : PolicyTree) → IsNodeOf (at_depth (length above) change t) above u
    → (old : PolicyTree) × IsNodeOf t above old × (u ≡ change old)
unchanged [] change t u is = (t, refl, sym is)
unchanged (policy ∷ above) change t u is =
    let parent = unchanged above (below_changed change) t is.0 is.1 in
    let has : Contains (children (below_changed change parent.0)) u = subst (λ p. Contains (children p) u) parent.2 is.3 in
    let from = from_map change (children parent.0) u (given_child (map change (children parent.0)) parent.0 u has) in
    let named : valid_policy parent.0 ≡ policy = sym (ap valid_policy parent.2) ∙ is.2 in
    (from.0, (parent.0, parent.1, named, from.1), sym from.2)

pub changed : (above : List (List ℕ)) (change : PolicyTree → PolicyTree) (t u : PolicyTree) → IsNodeOf t above u
    → IsNodeOf (at_depth (length above) change t) above (change u)
changed [] change t u is = ap change is
changed (policy ∷ above) change t u is =
    let up = changed above (below_changed change) t is.0 is.1 in
    let all = map change (children is.0) in
    (below_changed change is.0, up, is.2, child_given all is.0 (change u) (in_map change (children is.0) u is.3))

-- some node of this depth passes a test

pub some_there : (depth : ℕ) (test : PolicyTree → Bool) (t : PolicyTree) → some_at depth test t ≡ true
    → (above : List (List ℕ)) × (u : PolicyTree) × (length above ≡ depth) × IsNodeOf t above u × (test u ≡ true)
some_there zero test t h = ([], t, refl, refl, h)
some_there (suc depth) test t h =
    let parent = some_there depth (λ u. list_any test (children u)) t h in
    let child = some_passes test (children parent.1) parent.4 in
    (valid_policy parent.1 ∷ parent.0, child.0, ap suc parent.2, (parent.1, parent.3, refl, child.1), child.2)

pub there_is : (above : List (List ℕ)) (test : PolicyTree → Bool) (t u : PolicyTree) → IsNodeOf t above u → test u ≡ true
    → some_at (length above) test t ≡ true
there_is [] test t u is passes = ap test is ∙ passes
there_is (policy ∷ above) test t u is passes =
    there_is above (λ u. list_any test (children u)) t is.0 is.1 (passed_by test (children is.0) u is.3 passes)

-- children that fail a test are deleted

module _ (test : PolicyTree → Bool) where
  pub kept_was : (policy : List ℕ) (above : List (List ℕ)) (t u : PolicyTree)
      → IsNodeOf (at_depth (length above) (keep_children test) t) (policy ∷ above) u → IsNodeOf t (policy ∷ above) u × (test u ≡ true)
  kept_was policy above t u is =
      let parent = unchanged above (keep_children test) t is.0 is.1 in
      let all = children parent.0 in
      let has : Contains (children (keep_children test parent.0)) u = subst (λ p. Contains (children p) u) parent.2 is.3 in
      let kept = from_filter test all u (given_child (filter test all) parent.0 u has) in
      ((parent.0, parent.1, sym (ap valid_policy parent.2) ∙ is.2, kept.0), kept.1)

  pub was_kept : (policy : List ℕ) (above : List (List ℕ)) (t u : PolicyTree) → IsNodeOf t (policy ∷ above) u → test u ≡ true
      → IsNodeOf (at_depth (length above) (keep_children test) t) (policy ∷ above) u
  was_kept policy above t u is passes =
      let all = children is.0 in (
        keep_children test is.0,
        changed above (keep_children test) t is.0 is.1,
        is.2,
        child_given (filter test all) is.0 u (in_filter test all u is.3 passes),
      )

-- childless nodes are deleted

has_some : (u c : PolicyTree) → Contains (children u) c → has_children u ≡ true
has_some u c h = passed_by (λ child. true) (children u) c h refl

some_child : (u : PolicyTree) → has_children u ≡ true → (c : PolicyTree) × Contains (children u) c
some_child u h = let some = some_passes (λ child. true) (children u) h in (some.0, some.1)

root_left : (b : Bool) (t left : PolicyTree) → cond b (Some t) None ≡ Some left → (t ≡ left) × (b ≡ true)
root_left true t left e = (cc, refl)
root_left false t left e = cc

root_deleted : (b : Bool) (t : PolicyTree) → cond b (Some t) None ≡ None → b ≡ false
root_deleted true t e = cc
root_deleted false t e = refl

-- a node behind those that lose childless nodes is left, and no other one
pub left_was : (policy : List ℕ) (above : List (List ℕ)) (t left u : PolicyTree) → without_childless (length above) t ≡ Some left
    → IsNodeOf left (policy ∷ above) u → IsNodeOf t (policy ∷ above) u
left_was policy [] t left u e is = (is.0, (root_left (has_children t) t left e).0 ∙ is.1, is.2, is.3)
left_was policy (next ∷ above) t left u e is =
    let fewer = at_depth (length above) (keep_children has_children) t in
    let parent = left_was next above fewer left is.0 e is.1 in
    (is.0, (kept_was has_children next above t is.0 parent).0, is.2, is.3)

pub was_left : (policy : List ℕ) (above : List (List ℕ)) (t left u : PolicyTree) → without_childless (length above) t ≡ Some left
    → IsNodeOf t (policy ∷ above) u → IsNodeOf left (policy ∷ above) u
was_left policy [] t left u e is = (is.0, sym (root_left (has_children t) t left e).0 ∙ is.1, is.2, is.3)
was_left policy (next ∷ above) t left u e is =
    let fewer = at_depth (length above) (keep_children has_children) t in
    let kept = was_kept has_children next above t is.0 is.1 (has_some is.0 u is.3) in
    (is.0, was_left next above fewer left is.0 e kept, is.2, is.3)

-- where there is one, the tree is not NULL
pub none_left : (policy : List ℕ) (above : List (List ℕ)) (t u : PolicyTree) → without_childless (length above) t ≡ None
    → IsNodeOf t (policy ∷ above) u → ⊥
none_left policy [] t u e is = false≢true (sym (root_deleted (has_children t) t e) ∙ (ap has_children is.1 ∙ has_some is.0 u is.3))
none_left policy (next ∷ above) t u e is =
    let fewer = at_depth (length above) (keep_children has_children) t in
    let kept = was_kept has_children next above t is.0 is.1 (has_some is.0 u is.3) in
    none_left next above fewer is.0 e kept

-- a node of that depth has a child
pub left_child : (above : List (List ℕ)) (t left u : PolicyTree) → without_childless (length above) t ≡ Some left → IsNodeOf left above u
    → (c : PolicyTree) × Contains (children u) c
left_child [] t left u e is =
    let root = root_left (has_children t) t left e in
    some_child u (sym (ap has_children (root.0 ∙ is)) ∙ root.1)
left_child (next ∷ above) t left u e is =
    let fewer = at_depth (length above) (keep_children has_children) t in
    some_child u (kept_was has_children next above t u (left_was next above fewer left u e is)).1

-- and there is one
pub some_left : (depth : ℕ) (t left : PolicyTree) → without_childless depth t ≡ Some left
    → (above : List (List ℕ)) × (u : PolicyTree) × (length above ≡ suc depth) × IsNodeOf left above u
some_left zero t left e =
    let child = left_child [] t left left e refl in
    (valid_policy left ∷ [], child.0, refl, (left, refl, refl, child.1))
some_left (suc depth) t left e =
    let fewer = at_depth depth (keep_children has_children) t in
    let parent = some_left depth fewer left e in
    let there : without_childless (length parent.0) t ≡ Some left = subst (λ n. without_childless n t ≡ Some left) (sym parent.2) e in
    let child = left_child parent.0 t left parent.1 there parent.3 in
    (valid_policy parent.1 ∷ parent.0, child.0, ap suc parent.2, (parent.1, parent.3, refl, child.1))
