-- The valid_policy_tree stands for the traces.
use Rattle.std.proofs.Common.{◌≡◌, ◌≢◌, ◌↔◌, ◌<◌, ◌≤◌, ◌+◌, ◌-◌, ℕ, zero, suc, List, [], ◌∷◌, length, Option, Some, None, arith, refl, ap, sym, subst, inl, inr}
use Rattle.std.specs.Prelude.{MatchOption}
use Rattle.std.specs.List.{Contains}
use Rattle.std.proofs.lemmas.Bool.{cases_eq}
use Rattle.path_policies.specs.Query.{PolicyQuery, any_policy, count, certificate_numbered}
use Rattle.path_policies.specs.Policies.{States, Expects, IsFollowing, IsValidPolicy}
use Rattle.path_policies.specs.Nodes.{PolicyTree, valid_policy, expected_policy_set, children}
use Rattle.path_policies.specs.Tree.{explicit_policy, initial_tree, process_policies, tree_with, tree_after}
use Rattle.path_policies.specs.TreeLaws.{IsNodeOf, HasBranch, IsTrace, MapNoAny, BranchesAreTraces, NullIsNoPolicy, RequiredPolicyIsExact}
use Rattle.path_policies.proofs.TreeCounting.{explicit_policy_is_exact}
use Rattle.path_policies.proofs.TreeMembers.{in_none, in_first, in_one}
use Rattle.path_policies.proofs.Known.{Stands, StandsOrNull, HaveChildren, is_null, is_there}
use Rattle.path_policies.proofs.Traces.{IsReached, following_trace, trace_following, reached_at, at_reached}
use Rattle.path_policies.proofs.TreeFollowing.{next_stands, next_have_children}
use Rattle.path_policies.proofs.Preparing.{prepared}

abbrev Itself : List ℕ → List ℕ → Type 0
Itself own policy = policy ≡ own

module _ (q : PolicyQuery) where
  -- before the first certificate

  initial_expects : (policy : List ℕ) → Contains (any_policy ∷ []) policy ↔ Expects q 0 any_policy policy
  initial_expects policy = (
    λ h. inr (sym (in_one any_policy policy h), λ mapped. in_none _ mapped.1.1),
    λ h. elim h [
      | inl maps ↦ in_none _ maps.1
      | inr itself ↦ subst (λ p. Contains (any_policy ∷ []) p) (sym itself.0) (in_first any_policy [])
    ],
  )

  initial_stands : Stands 0 (IsTrace q) (Expects q 0) initial_tree
  initial_stands = record { last = last; sound = sound; complete = complete; expected = expected } where
    last : (above : List (List ℕ)) (u : PolicyTree) → length above ≡ 0 → IsNodeOf initial_tree above u → children u ≡ []
    last [] u d is = ap children (sym is)
    last (policy ∷ above) u d is = absurd (omega arith)

    sound : (above : List (List ℕ)) (u : PolicyTree) → length above ≡ 0 → IsNodeOf initial_tree above u → IsTrace q (valid_policy u ∷ above)
    sound [] u d is = ap valid_policy (sym is)
    sound (policy ∷ above) u d is = absurd (omega arith)

    complete : (above : List (List ℕ)) (policy : List ℕ) → length above ≡ 0 → IsTrace q (policy ∷ above)
        → (u : PolicyTree) × IsNodeOf initial_tree above u × (valid_policy u ≡ policy)
    complete [] policy d h = (initial_tree, refl, sym h)
    complete (parent ∷ above) policy d h = absurd (omega arith)

    expected : (above : List (List ℕ)) (u : PolicyTree) → length above ≡ 0 → IsNodeOf initial_tree above u
        → (policy : List ℕ) → Contains (expected_policy_set u) policy ↔ Expects q 0 (valid_policy u) policy
    expected [] u d is policy = subst (λ x. Contains (expected_policy_set x) policy ↔ Expects q 0 (valid_policy x) policy) is (initial_expects policy)
    expected (parent ∷ above) u d is policy = absurd (omega arith)

  -- one more certificate

  module _ (i : ℕ) (there : i < count q) where
    nothing_follows : (certificate_numbered q (i + 1)).extensions.policies ≡ None → (above : List (List ℕ)) (policy : List ℕ)
        → length above ≡ suc i → IsReached q (policy ∷ above) → ⊥
    nothing_follows lacks [] policy d h = absurd (omega arith)
    nothing_follows lacks (parent ∷ above) policy d h =
        let never = λ (own : List ℕ) (states : States q (i + 1) own). subst (λ o. MatchOption o ⊥ (λ l. Contains l own)) lacks states in
        elim (reached_at q i above parent policy (omega arith) h).1 [
          | inl first ↦ never policy first.0.0
          | inr (inl any) ↦ never policy any.0.0
          | inr (inr other) ↦ never any_policy other.1.0.0
        ]

    nothing_above : ((above : List (List ℕ)) (policy : List ℕ) → length above ≡ i → IsTrace q (policy ∷ above) → ⊥)
        → (above : List (List ℕ)) (policy : List ℕ) → length above ≡ suc i → IsReached q (policy ∷ above) → ⊥
    nothing_above none [] policy d h = absurd (omega arith)
    nothing_above none (parent ∷ above) policy d h = none above parent (omega arith) h.0

    next : (policies : Option (List (List ℕ))) → (certificate_numbered q (i + 1)).extensions.policies ≡ policies → (tree : Option PolicyTree)
        → StandsOrNull i (IsTrace q) (Expects q i) tree
        → StandsOrNull (suc i) (IsReached q) Itself (process_policies q i policies tree) × HaveChildren i (process_policies q i policies tree)
    next None e tree s = (is_null (suc i) (IsReached q) Itself (nothing_follows e), λ t is. cc)
    next (Some policies) e None s = (is_null (suc i) (IsReached q) Itself (nothing_above (s.none refl)), λ t is. cc)
    next (Some policies) e (Some t) s =
        (next_stands q i there policies e t (s.stands t refl), next_have_children q i there policies e t (s.stands t refl))

  plain_before : (i : ℕ) → MapNoAny q (suc i) → MapNoAny q i
  plain_before i plain k from to = plain k from (omega arith)

  pub after_stands : (i : ℕ) → i ≤ count q → MapNoAny q i → StandsOrNull i (IsTrace q) (Expects q i) (tree_after q i)
  after_stands zero h plain = is_there 0 (IsTrace q) (Expects q 0) initial_tree initial_stands ([], initial_tree, refl, refl)
  after_stands (suc i) h plain =
      let before = after_stands i (omega arith) (plain_before i plain) in
      let with = next i (omega arith) (certificate_numbered q (i + 1)).extensions.policies refl (tree_after q i) before in
      prepared q i (omega arith) (plain_before i plain) (tree_with q i (tree_after q i)) with.0 with.1

  pub at_stands : (i : ℕ) → i < count q → MapNoAny q i → StandsOrNull (suc i) (IsReached q) Itself (tree_with q i (tree_after q i))
  at_stands i h plain =
      (next i h (certificate_numbered q (i + 1)).extensions.policies refl (tree_after q i) (after_stands i (omega arith) plain)).0

-- the branches

branch_right : (depth : ℕ) (IsRight : List (List ℕ) → Type 0) (IsExpected : List ℕ → List ℕ → Type 0) (tree : Option PolicyTree)
    → StandsOrNull depth IsRight IsExpected tree → (above : List (List ℕ)) (policy : List ℕ) → length above ≡ depth
    → HasBranch tree (policy ∷ above) ↔ IsRight (policy ∷ above)
branch_right depth IsRight IsExpected None s above policy d = (λ h. absurd h.1, λ h. absurd (s.none refl above policy d h))
branch_right depth IsRight IsExpected (Some t) s above policy d = (
  λ h. subst (λ p. IsRight (p ∷ above)) h.2 ((s.stands t refl).sound above h.0 d h.1),
  λ h. (s.stands t refl).complete above policy d h,
)

pub branches_are_traces : BranchesAreTraces
branches_are_traces q i h plain [] d = absurd (omega arith)
branches_are_traces q i h plain (policy ∷ above) d =
    branch_right i (IsTrace q) (Expects q i) (tree_after q i) (after_stands q i h plain) above policy (omega arith)

-- NULL

some_follows : (q : PolicyQuery) (i : ℕ) (above : List (List ℕ)) (policy : List ℕ) → length above ≡ suc i → IsReached q (policy ∷ above)
    → IsFollowing q i (IsValidPolicy q i) policy
some_follows q i [] policy d h = absurd (omega arith)
some_follows q i (parent ∷ above) policy d h =
    let at : length above ≡ i = omega arith in
    let r = reached_at q i above parent policy at h in
    trace_following q i above parent policy at r.0 r.1

some_policy : (q : PolicyQuery) (i : ℕ) (tree : Option PolicyTree) → StandsOrNull (suc i) (IsReached q) Itself tree
    → tree ≢ None → (policy : List ℕ) × IsFollowing q i (IsValidPolicy q i) policy
some_policy q i None s there = absurd (there refl)
some_policy q i (Some t) s there =
    let node = s.some t refl in (
      valid_policy node.1,
      some_follows q i node.0 (valid_policy node.1) node.2 ((s.stands t refl).sound node.0 node.1 node.2 node.3),
    )

null_if_none : (q : PolicyQuery) (i : ℕ) (tree : Option PolicyTree) → StandsOrNull (suc i) (IsReached q) Itself tree
    → ((policy : List ℕ) → ¬ IsFollowing q i (IsValidPolicy q i) policy) → tree ≡ None
null_if_none q i None s never = refl
null_if_none q i (Some t) s never = let one = some_policy q i (Some t) s (λ e. absurd (cc e)) in absurd (never one.0 one.1)

null_exactly : (q : PolicyQuery) (i : ℕ) → i < count q → MapNoAny q i
    → (tree_with q i (tree_after q i) ≡ None) ↔ ((policy : List ℕ) → ¬ IsFollowing q i (IsValidPolicy q i) policy)
null_exactly q i h plain =
    let s = at_stands q i h plain in (
      λ e policy follows.
          let f = following_trace q i policy follows in
          s.none e (f.0 ∷ f.1) policy (ap suc f.2) (at_reached q i f.1 f.0 policy f.2 f.3 f.4),
      null_if_none q i (tree_with q i (tree_after q i)) s,
    )

pub null_is_no_policy : NullIsNoPolicy
null_is_no_policy q zero from h plain = absurd (omega arith)
null_is_no_policy q (suc i) from h plain =
    let same : suc i - 1 ≡ i = omega arith in
    subst (λ n. (tree_with q n (tree_after q n) ≡ None) ↔ ((policy : List ℕ) → ¬ IsFollowing q n (IsValidPolicy q n) policy)) (sym same)
    (null_exactly q i (omega arith) (subst (λ n. MapNoAny q n) same plain))

-- 6.1.3 (f)

some_exactly : (q : PolicyQuery) (i : ℕ) → i < count q → MapNoAny q i
    → (tree_with q i (tree_after q i) ≢ None) ↔ ((policy : List ℕ) × IsFollowing q i (IsValidPolicy q i) policy)
some_exactly q i h plain = (
  some_policy q i (tree_with q i (tree_after q i)) (at_stands q i h plain),
  λ one null. (null_exactly q i h plain).0 null one.0 one.1,
)

pub required_policy_is_exact : RequiredPolicyIsExact
required_policy_is_exact q zero from h plain = absurd (omega arith)
required_policy_is_exact q (suc i) from h plain =
    let same : suc i - 1 ≡ i = omega arith in
    let there = subst (λ n. (tree_with q n (tree_after q n) ≢ None) ↔ ((policy : List ℕ) × IsFollowing q n (IsValidPolicy q n) policy)) (sym same)
    (some_exactly q i (omega arith) (subst (λ n. MapNoAny q n) same plain)) in
    let required = explicit_policy_is_exact q (suc i) from h in (
      λ h is_required. elim h [
        | inl greater ↦ let none = required.1 is_required in absurd (omega arith)
        | inr some ↦ there.0 some
      ],
      λ h. elim (cases_eq (explicit_policy q (suc i)) 0) [
        | inl none ↦ inr (there.1 (h (required.0 none)))
        | inr more ↦ inl (omega arith)
      ],
    )
