-- What the user's policies leave of the tree is not NULL exactly if there is a policy of the user.
use Rattle.std.proofs.Common.{◌≡◌, ◌≢◌, ◌<◌, ◌≤◌, ◌+◌, ◌-◌, ℕ, zero, suc, List, [], ◌∷◌, true, not, cond, filter, length, Option, None, arith, refl, ap, sym, ◌∙◌, subst, inl, inr, add-one}
use Rattle.std.specs.List.{Contains}
use Rattle.std.proofs.lemmas.Bool.{cases_Bool, false≢true, not_from_false}
use Rattle.path_policies.specs.Query.{PolicyQuery, any_policy, count}
use Rattle.path_policies.specs.Policies.{Expects, IsParent, IsValidPolicy, IsBelow, Lasts}
use Rattle.path_policies.specs.Acceptance.{IsFirstNamed, IsAuthorityPolicy, TakesAny, IsUserPolicy}
use Rattle.path_policies.specs.Nodes.{PolicyTree, valid_policy, is_of, leaf, some_at}
use Rattle.path_policies.specs.Intersection.{is_in_set, choose_above, replace_any}
use Rattle.path_policies.specs.TreeLaws.{IsNodeOf, IsTrace, MapNoAny}
use Rattle.path_policies.proofs.TreeMembers.{in_filter, from_filter, same, equal, same_or_other}
use Rattle.path_policies.proofs.Depths.{some_there, there_is}
use Rattle.path_policies.proofs.Known.{StandsOrNull}
use Rattle.path_policies.proofs.Traces.{trace_to, valid_at}
use Rattle.path_policies.proofs.Preparing.{any_only}
use Rattle.path_policies.proofs.Branching.{HaveChildrenAbove}
use Rattle.path_policies.proofs.TreeLasting.{IsKnown, leads, never_lasting}
use Rattle.path_policies.proofs.Choosing.{ChosenAt, above_chosen, chosen_above, in_set, replaced, not_replaced, replacing}

module _ (q : PolicyQuery) (plain : MapNoAny q (count q)) where
  abbrev pub user : List (List ℕ)
  user = q.initial_policies

  -- anyPolicy stands below itself alone
  only_any : (i : ℕ) (parent : List ℕ) → i ≤ count q → IsParent q i (IsValidPolicy q i) parent any_policy → parent ≡ any_policy
  only_any i parent h (inl follows) = any_only q i (λ k from to. plain k from (omega arith)) parent follows.0
  only_any i parent h (inr made) = made.1.1

  chosen_any : (k : ℕ) (above : List (List ℕ)) → length above ≤ count q → IsTrace q (any_policy ∷ above) → ChosenAt user k (any_policy ∷ above)
  chosen_any k [] h trace = tt
  chosen_any k (parent ∷ above) h trace =
      let any = only_any (length above) parent (omega arith) trace.1.1 in (
        (λ d e. inl refl),
        subst (λ p. ChosenAt user k (p ∷ above)) (sym any)
            (chosen_any k above (omega arith) (subst (λ p. IsTrace q (p ∷ above)) any trace.0)),
      )

  -- a policy below anyPolicy on the way up
  first_named : (IsRight : List (List ℕ) → Type 0) (IsPicked : List ℕ → Type 0)
      → ((policy parent : List ℕ) (above : List (List ℕ)) → IsRight (policy ∷ parent ∷ above) → IsRight (parent ∷ above))
      → ((policy : List ℕ) (above : List (List ℕ)) → length above < count q → policy ≢ any_policy → IsRight (policy ∷ any_policy ∷ above) → IsPicked policy)
      → (above : List (List ℕ)) (policy : List ℕ) (more : ℕ) → IsTrace q (policy ∷ above) → Lasts q more (length above) policy
      → length above + more ≡ count q → policy ≢ any_policy → IsRight (policy ∷ above) → (first : List ℕ) × IsFirstNamed q first × IsPicked first
  first_named IsRight IsPicked up pick [] policy more trace lasts d other right = absurd (other trace)
  first_named IsRight IsPicked up pick (parent ∷ above) policy more trace lasts d other right = elim (same_or_other parent any_policy) [
    | inl any ↦
        let depth : suc (length above) ≡ length above + 1 = omega arith in
        let left : more ≡ count q - (length above + 1) = omega arith in
        let here = subst (λ m. Lasts q m (length above + 1) policy) left (subst (λ n. Lasts q more n policy) depth lasts) in (
          policy,
          record {
            depth = length above;
            above_end = omega arith;
            named = other;
            below = subst (λ p. IsBelow q (length above) p policy) any trace.1;
            lasts = here;
          },
          pick policy above (omega arith) other (subst (λ p. IsRight (policy ∷ p ∷ above)) any right),
        )
    | inr named ↦
        first_named IsRight IsPicked up pick above parent (suc more) trace.0
        (policy, trace.1, subst (λ n. Lasts q more n policy) (omega arith) lasts) (omega arith) named (up policy parent above right)
  ]

  -- a first named policy has a trace, which lasts
  abbrev pub LastsBelow : List ℕ → Type 0
  LastsBelow policy =
      (above : List (List ℕ)) × (more : ℕ) × (length (any_policy ∷ above) + more ≡ count q)
      × IsTrace q (policy ∷ any_policy ∷ above) × Lasts q more (length (any_policy ∷ above)) policy

  pub named_lasts : (policy : List ℕ) → IsFirstNamed q policy → LastsBelow policy
  named_lasts policy first =
      let up = trace_to q first.depth any_policy first.below.0 in
      let d = up.1 in
      let inside = first.above_end in
      let at : first.depth + 1 ≡ suc (length up.0) = omega arith in (
        up.0,
        count q - (first.depth + 1),
        omega arith,
        (up.2, subst (λ n. IsBelow q n any_policy policy) (sym d) first.below),
        subst (λ n. Lasts q (count q - (first.depth + 1)) n policy) at first.lasts,
      )

  -- where there is a policy of the authorities, the tree is not NULL
  pub authority_there : (tree : Option PolicyTree) → StandsOrNull (count q) (IsTrace q) (Expects q (count q)) tree → (policy : List ℕ)
      → IsAuthorityPolicy q policy → tree ≢ None
  authority_there tree s policy (inl first) e =
      let l = named_lasts policy first in
      never_lasting q (s.none e) l.1 (any_policy ∷ l.0) policy l.3 l.4
  authority_there tree s policy (inr any) e = let up = trace_to q (count q) any_policy any.1 in s.none e up.0 any_policy up.1 up.2

  -- the user takes every policy

  abbrev IsAny : List (List ℕ) → Type 0
  IsAny branch = Unit {0}

  pub some_authority : (t : PolicyTree) → IsKnown q t → (above : List (List ℕ)) (u : PolicyTree) → length above ≡ count q → IsNodeOf t above u
      → (policy : List ℕ) × IsAuthorityPolicy q policy
  some_authority t s above u d is =
      let trace = s.sound above u d is in
      elim (same_or_other (valid_policy u) any_policy) [
        | inl any ↦ (any_policy, inr (refl, subst (λ p. IsValidPolicy q (count q) p) any (valid_at q (count q) above (valid_policy u) d trace)))
        | inr other ↦
            let first = first_named IsAny (λ p. Unit {0}) (λ p parent higher h. tt) (λ p higher less named h. tt) above (valid_policy u) 0 trace d
            (omega arith) other tt in
            (first.0, inl first.1)
      ]

  -- the user does not

  module _ (d : ℕ) (size : count q ≡ suc d) (takes : ¬ TakesAny q) (t : PolicyTree) (s : IsKnown q t) (have : HaveChildrenAbove (count q) t) where
    abbrev pub missing : List (List ℕ)
    missing = filter (λ policy. not (is_in_set policy (suc d) t)) user

    abbrev pub chosen : PolicyTree
    chosen = choose_above user (suc d) t

    abbrev pub final : PolicyTree
    final = cond (some_at (suc d) (is_of any_policy) chosen) (replace_any d missing chosen) chosen

    -- a node that is left is of a policy of the user, or below one

    abbrev pub SomeUserPolicy : Type 0
    SomeUserPolicy = (policy : List ℕ) × IsUserPolicy q policy

    from_chosen : (above : List (List ℕ)) (parent : List ℕ) (u : PolicyTree) → length above ≡ d → IsNodeOf chosen (parent ∷ above) u
        → valid_policy u ≢ any_policy → SomeUserPolicy
    from_chosen above parent u at is other =
        let was = above_chosen user (suc d) above parent t u (omega arith) is in
        let deep : length (parent ∷ above) ≡ count q = omega arith in
        let trace = s.sound (parent ∷ above) u deep was.0 in
        let first = first_named (λ l. (k : ℕ) → k < suc d → ChosenAt user k l) (Contains user) (λ p next higher h k less. (h k less).1)
        (λ p higher less named h. elim ((h (length higher) (omega arith)).0 refl refl) [ inl any ↦ absurd (named any) | inr own ↦ own ])
        (parent ∷ above) (valid_policy u) 0 trace deep (omega arith) other was.1 in
        (first.0, inr ((takes, first.2), inl (inl first.1)))

    -- a node of depth n with anyPolicy
    any_there : (above : List (List ℕ)) (u : PolicyTree) → length above ≡ suc d → IsNodeOf chosen above u → valid_policy u ≡ any_policy
        → some_at (suc d) (is_of any_policy) chosen ≡ true
    any_there above u at is e =
        subst (λ n. some_at n (is_of any_policy) chosen ≡ true) at
        (there_is above (is_of any_policy) chosen u is (equal any_policy (valid_policy u) (sym e)))

    any_valid : (above : List (List ℕ)) (u : PolicyTree) → length above ≡ suc d → IsNodeOf chosen above u → is_of any_policy u ≡ true
        → IsValidPolicy q (count q) any_policy
    any_valid [] u at is any = absurd (omega arith)
    any_valid (parent ∷ above) u at is any =
        let was = above_chosen user (suc d) above parent t u (omega arith) is in
        let deep : length (parent ∷ above) ≡ count q = omega arith in
        subst (λ p. IsValidPolicy q (count q) p) (sym (same any_policy (valid_policy u) any))
        (valid_at q (count q) (parent ∷ above) (valid_policy u) deep (s.sound (parent ∷ above) u deep was.0))

    pub left_is_user : (above : List (List ℕ)) (parent : List ℕ) (u : PolicyTree) → length above ≡ d → IsNodeOf final (parent ∷ above) u → SomeUserPolicy
    left_is_user above parent u at is = elim (cases_Bool (some_at (suc d) (is_of any_policy) chosen)) [
      | inl has ↦
          let here = subst (λ b. IsNodeOf (cond b (replace_any d missing chosen) chosen) (parent ∷ above) u) has is in
          elim (replaced missing above parent chosen u (subst (λ n. IsNodeOf (replace_any n missing chosen) (parent ∷ above) u) (sym at) here)) [
            | inl was ↦ from_chosen above parent u at was.0 was.1
            | inr new ↦
                let own = from_filter (λ policy. not (is_in_set policy (suc d) t)) user (valid_policy u) new in
                let any = some_there (suc d) (is_of any_policy) chosen has in
                (valid_policy u, inr ((takes, own.0), inr (inr (refl, any_valid any.0 any.1 any.2 any.3 any.4))))
          ]
      | inr lacks ↦
          let here = subst (λ b. IsNodeOf (cond b (replace_any d missing chosen) chosen) (parent ∷ above) u) lacks is in
          from_chosen above parent u at here (λ e. false≢true (sym lacks ∙ any_there (parent ∷ above) u (ap suc at) here e))
    ]

    -- below a policy of the user a node is left

    abbrev pub IsLeft : Type 0
    IsLeft = (above : List (List ℕ)) × (parent : List ℕ) × (u : PolicyTree) × (length above ≡ d) × IsNodeOf final (parent ∷ above) u

    is_left : (above : List (List ℕ)) (u : PolicyTree) → length above ≡ count q → IsNodeOf t above u → valid_policy u ≢ any_policy
        → ((k : ℕ) → ChosenAt user k (valid_policy u ∷ above)) → IsLeft
    is_left [] u deep is other chosen_so = absurd (omega arith)
    is_left (parent ∷ above) u deep is other chosen_so =
        let at : length above ≡ d = omega arith in
        let kept = chosen_above user (suc d) above parent t u (omega arith) is chosen_so in (
          above,
          parent,
          u,
          at,
          elim (cases_Bool (some_at (suc d) (is_of any_policy) chosen)) [
            | inl has ↦ subst (λ b. IsNodeOf (cond b (replace_any d missing chosen) chosen) (parent ∷ above) u) (sym has)
                (subst (λ n. IsNodeOf (replace_any n missing chosen) (parent ∷ above) u) at (not_replaced missing above parent chosen u kept other))
            | inr lacks ↦ subst (λ b. IsNodeOf (cond b (replace_any d missing chosen) chosen) (parent ∷ above) u) (sym lacks) kept
          ],
        )

    -- on the way down no policy is anyPolicy again
    downward : (more : ℕ) (above : List (List ℕ)) (policy : List ℕ) → IsTrace q (policy ∷ above) → Lasts q more (length above) policy
        → length above + more ≡ count q → policy ≢ any_policy → ((k : ℕ) → ChosenAt user k (policy ∷ above)) → IsLeft
    downward zero above policy trace lasts deep other chosen_so =
        let u = s.complete above policy lasts trace in
        is_left above u.0 lasts u.1 (λ e. other (sym u.2 ∙ e)) (λ k. subst (λ p. ChosenAt user k (p ∷ above)) (sym u.2) (chosen_so k))
    downward (suc more) above policy trace lasts deep other chosen_so =
        let below = lasts.0 in
        downward more (policy ∷ above) below (trace, lasts.1) (subst (λ n. Lasts q more n below) (add-one (length above)) lasts.2) (omega arith)
        (λ e. other (only_any (length above) policy (omega arith) (subst (λ p. IsBelow q (length above) policy p) e lasts.1).1))
        (λ k. ((λ at any. absurd (other any)), chosen_so k))

    named_left : (policy : List ℕ) → IsFirstNamed q policy → Contains user policy → IsLeft
    named_left policy first own =
        let l = named_lasts policy first in
        let deep = l.2 in
        downward l.1 (any_policy ∷ l.0) policy l.3 l.4 deep first.named
        (λ k. ((λ at any. inr own), chosen_any k l.0 (omega arith) l.3.0))

    any_left : IsValidPolicy q (count q) any_policy → (policy : List ℕ) → Contains user policy → policy ≢ any_policy → IsLeft
    any_left valid policy own other = let up = trace_to q (count q) any_policy valid in go up.0 up.1 up.2 where
      go : (above : List (List ℕ)) → length above ≡ count q → IsTrace q (any_policy ∷ above) → IsLeft
      go [] deep trace = absurd (omega arith)
      go (parent ∷ above) deep trace =
          let at : length above ≡ d = omega arith in
          let parent_any = only_any (length above) parent (omega arith) trace.1.1 in
          let u = s.complete (parent ∷ above) any_policy deep trace in
          let there = subst (λ p. IsNodeOf t (p ∷ above) u.0) parent_any u.1 in
          elim (cases_Bool (is_in_set policy (suc d) t)) [
            | inl set ↦
                let r = in_set policy (suc d) t set in
                let less = r.2 in
                let more = count q - length (any_policy ∷ r.0) in
                let low = leads q t s have more (any_policy ∷ r.0) r.1 (omega arith) r.3 in
                let trace_of = subst (λ p. IsTrace q (p ∷ any_policy ∷ r.0)) r.4 low.0 in
                let depth : suc (length r.0) ≡ length r.0 + 1 = omega arith in
                let lasts_of = subst (λ n. Lasts q (count q - n) n policy) depth
                (subst (λ p. Lasts q more (length (any_policy ∷ r.0)) p) r.4 low.1) in
                named_left policy (record {
                  depth = length r.0;
                  above_end = omega arith;
                  named = other;
                  below = trace_of.1;
                  lasts = lasts_of;
                }) own
            | inr lacks ↦
                let is_missing = in_filter (λ p. not (is_in_set p (suc d) t)) user policy own (not_from_false (is_in_set policy (suc d) t) lacks) in
                let kept = chosen_above user (suc d) above any_policy t u.0 (omega arith) there
                (λ k. subst (λ p. ChosenAt user k (p ∷ any_policy ∷ above)) (sym u.2)
                (subst (λ p. ChosenAt user k (any_policy ∷ p ∷ above)) parent_any (chosen_any k (parent ∷ above) (omega arith) trace))) in
                let has = any_there (any_policy ∷ above) u.0 (ap suc at) kept u.2 in
                let new = replacing missing above chosen policy kept.0 kept.1 kept.2 is_missing other in (
                  above,
                  any_policy,
                  leaf policy (policy ∷ []),
                  at,
                  subst (λ b. IsNodeOf (cond b (replace_any d missing chosen) chosen) (any_policy ∷ above) (leaf policy (policy ∷ []))) (sym has)
                      (subst (λ n. IsNodeOf (replace_any n missing chosen) (any_policy ∷ above) (leaf policy (policy ∷ []))) at new),
                )
          ]

    pub user_is_left : (policy : List ℕ) → IsUserPolicy q policy → IsLeft
    user_is_left policy (inl every) = absurd (takes every.0)
    user_is_left policy (inr (mine, inl (inl first))) = named_left policy first mine.1
    user_is_left policy (inr (mine, inl (inr any))) = absurd (takes (subst (Contains user) any.0 mine.1))
    user_is_left policy (inr (mine, inr (inl first))) = absurd (first.named refl)
    user_is_left policy (inr (mine, inr (inr any))) = any_left any.1 policy mine.1 (λ e. takes (subst (Contains user) e mine.1))
