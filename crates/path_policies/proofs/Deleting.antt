-- The mappings of a certificate where policy_mapping is 0: the nodes of mapped policies are deleted (6.1.4 (b) (2)).
use Rattle.std.proofs.Common.{◌≡◌, ◌≢◌, ◌↔◌, ℕ, suc, List, [], ◌∷◌, Bool, not, fold, length, Option, Some, None, arith, refl, ap, sym, ◌∙◌, subst, inl, inr}
use Rattle.std.specs.Prelude.{option_and_then}
use Rattle.std.specs.List.{Contains}
use Rattle.cert_policies.specs.PolicyExtensions.{PolicyMapping}
use Rattle.path_policies.specs.Nodes.{PolicyTree, valid_policy, expected_policy_set, children, is_of, keep_children, at_depth, without_childless}
use Rattle.path_policies.specs.Tree.{delete_policy}
use Rattle.path_policies.specs.TreeLaws.{IsNodeOf}
use Rattle.path_policies.proofs.TreeMembers.{in_none, in_first, in_rest, in_cases, differ, unequal}
use Rattle.path_policies.proofs.Depths.{kept_was, was_kept, left_was, was_left, none_left, some_left}
use Rattle.path_policies.proofs.Growing.{AtEach}
use Rattle.path_policies.proofs.Known.{Stands, StandsOrNull, null_as, is_null}

-- a branch ends in such a policy
abbrev pub EndsIn : (List ℕ → Type 0) → List (List ℕ) → Type 0
EndsIn P [] = ⊥
EndsIn P (policy ∷ above) = P policy

module _ (i : ℕ) (IsExpected : List ℕ → List ℕ → Type 0) where
  -- the right branches but for those that end in a mapped policy
  abbrev pub IsSpared : (List (List ℕ) → Type 0) → List PolicyMapping → List (List ℕ) → Type 0
  IsSpared IsRight mappings branch =
      IsRight branch × EndsIn (λ policy. (m : PolicyMapping) → Contains mappings m → m.issuer_domain_policy ≢ policy) branch

  abbrev IsOther : (List (List ℕ) → Type 0) → PolicyMapping → List (List ℕ) → Type 0
  IsOther IsRight m branch = IsRight branch × EndsIn (λ policy. m.issuer_domain_policy ≢ policy) branch

  module _ (IsRight : List (List ℕ) → Type 0) (m : PolicyMapping) (t : PolicyTree) (stands : Stands (suc i) IsRight IsExpected t) where
    abbrev spares : PolicyTree → Bool
    spares child = not (is_of m.issuer_domain_policy child)

    abbrev cut : PolicyTree
    cut = at_depth i (keep_children spares) t

    node_left : (left : PolicyTree) → without_childless i cut ≡ Some left → (parent : List ℕ) (above : List (List ℕ)) (u : PolicyTree)
        → length above ≡ i → IsNodeOf left (parent ∷ above) u → IsNodeOf t (parent ∷ above) u × (m.issuer_domain_policy ≢ valid_policy u)
    node_left left e parent above u d is =
        let there = left_was parent above cut left u (subst (λ n. without_childless n cut ≡ Some left) (sym d) e) is in
        let kept = kept_was spares parent above t u (subst (λ n. IsNodeOf (at_depth n (keep_children spares) t) (parent ∷ above) u) (sym d) there) in
        (kept.0, differ m.issuer_domain_policy (valid_policy u) kept.1)

    node_cut : (parent : List ℕ) (above : List (List ℕ)) (u : PolicyTree) → length above ≡ i → IsNodeOf t (parent ∷ above) u
        → m.issuer_domain_policy ≢ valid_policy u → IsNodeOf cut (parent ∷ above) u
    node_cut parent above u d is other =
        subst (λ n. IsNodeOf (at_depth n (keep_children spares) t) (parent ∷ above) u) d
        (was_kept spares parent above t u is (unequal m.issuer_domain_policy (valid_policy u) other))

    module _ (left : PolicyTree) (e : without_childless i cut ≡ Some left) where
      last_left : AtEach (suc i) left (λ u. children u ≡ [])
      last_left [] u d is = absurd (omega arith)
      last_left (parent ∷ above) u d is = stands.last (parent ∷ above) u d (node_left left e parent above u (omega arith) is).0

      sound_left : (above : List (List ℕ)) (u : PolicyTree) → length above ≡ suc i → IsNodeOf left above u → IsOther IsRight m (valid_policy u ∷ above)
      sound_left [] u d is = absurd (omega arith)
      sound_left (parent ∷ above) u d is =
          let was = node_left left e parent above u (omega arith) is in
          (stands.sound (parent ∷ above) u d was.0, was.1)

      complete_left : (above : List (List ℕ)) (policy : List ℕ) → length above ≡ suc i → IsOther IsRight m (policy ∷ above)
          → (u : PolicyTree) × IsNodeOf left above u × (valid_policy u ≡ policy)
      complete_left [] policy d h = absurd (omega arith)
      complete_left (parent ∷ above) policy d h =
          let at : length above ≡ i = omega arith in
          let u = stands.complete (parent ∷ above) policy d h.0 in
          let there = node_cut parent above u.0 at u.1 (λ same. h.1 (same ∙ u.2)) in
          (u.0, was_left parent above cut left u.0 (subst (λ n. without_childless n cut ≡ Some left) (sym at) e) there, u.2)

      expected_left : AtEach (suc i) left (λ u. (policy : List ℕ) → Contains (expected_policy_set u) policy ↔ IsExpected (valid_policy u) policy)
      expected_left [] u d is = absurd (omega arith)
      expected_left (parent ∷ above) u d is = stands.expected (parent ∷ above) u d (node_left left e parent above u (omega arith) is).0

    not_null : without_childless i cut ≡ None → (above : List (List ℕ)) (policy : List ℕ) → length above ≡ suc i → IsOther IsRight m (policy ∷ above) → ⊥
    not_null e [] policy d h = absurd (omega arith)
    not_null e (parent ∷ above) policy d h =
        let at : length above ≡ i = omega arith in
        let u = stands.complete (parent ∷ above) policy d h.0 in
        let there = node_cut parent above u.0 at u.1 (λ same. h.1 (same ∙ u.2)) in
        none_left parent above cut u.0 (subst (λ n. without_childless n cut ≡ None) (sym at) e) there

    one_deleted : StandsOrNull (suc i) (IsOther IsRight m) IsExpected (delete_policy i t m)
    one_deleted = record {
      stands = λ left e. record { last = last_left left e; sound = sound_left left e; complete = complete_left left e; expected = expected_left left e };
      some = λ left e. some_left i cut left e;
      none = not_null;
    }

  another_deleted : (IsRight : List (List ℕ) → Type 0) (m : PolicyMapping) (tree : Option PolicyTree) → StandsOrNull (suc i) IsRight IsExpected tree
      → StandsOrNull (suc i) (IsOther IsRight m) IsExpected (option_and_then (λ t. delete_policy i t m) tree)
  another_deleted IsRight m None s = is_null (suc i) (IsOther IsRight m) IsExpected (λ above policy d h. s.none refl above policy d h.0)
  another_deleted IsRight m (Some t) s = one_deleted IsRight m t (s.stands t refl)

  pub all_deleted : (mappings : List PolicyMapping) (IsRight : List (List ℕ) → Type 0) (tree : Option PolicyTree)
      → StandsOrNull (suc i) IsRight IsExpected tree
      → StandsOrNull (suc i) (IsSpared IsRight mappings) IsExpected
      (fold (λ left mapping. option_and_then (λ t. delete_policy i t mapping) left) tree mappings)
  all_deleted [] IsRight tree s =
      null_as (suc i) IsRight (IsSpared IsRight []) IsExpected IsExpected
      (λ above policy d. (λ h. (h, λ m is. in_none m is), λ h. h.0)) (λ above own policy d right. (λ h. h, λ h. h)) tree s
  all_deleted (m ∷ mappings) IsRight tree s =
      let next = option_and_then (λ t. delete_policy i t m) tree in
      null_as (suc i) (IsSpared (IsOther IsRight m) mappings) (IsSpared IsRight (m ∷ mappings)) IsExpected IsExpected
      (λ above policy d. (
        λ h. (
          h.0.0,
          λ other is same. elim (in_cases m other mappings is) [
            | inl first ↦ h.0.1 (ap (λ (x : PolicyMapping). x.issuer_domain_policy) first ∙ same)
            | inr later ↦ h.1 other later same
          ],
        ),
        λ h. ((h.0, h.1 m (in_first m mappings)), λ other is. h.1 other (in_rest m other mappings is)),
      ))
      (λ above own policy d right. (λ h. h, λ h. h))
      (fold (λ left mapping. option_and_then (λ t. delete_policy i t mapping) left) next mappings)
      (all_deleted mappings (IsOther IsRight m) next (another_deleted IsRight m tree s))
