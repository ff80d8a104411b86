-- What certificatePolicies of the next certificate makes of a tree (6.1.3 (d)).
use Rattle.std.proofs.Common.{◌≡◌, ◌↔◌, ◌⊎◌, ◌<◌, ◌+◌, ◌||◌, ◌&&◌, ℕ, suc, List, [], ◌∷◌, true, not, cond, filter, length, Some, None, arith, refl, ap, sym, ◌∙◌, subst, inl, inr}
use Rattle.std.specs.Prelude.{nat_lt, MatchOption}
use Rattle.std.specs.List.{Contains, list_any}
use Rattle.std.specs.Str.{bytes_eq}
use Rattle.std.proofs.lemmas.Bool.{cases_Bool, cases_eq, false≢true, or_cases, or_left, or_right, and_parts, and_from, ltb-true, lt-ltb}
use Rattle.path_policies.specs.Query.{PolicyQuery, any_policy, count, certificate_numbered}
use Rattle.path_policies.specs.Policies.{States, Names, AllowsAny, Expects, IsExpectedOf, Follows, IsValidPolicy}
use Rattle.path_policies.specs.Nodes.{PolicyTree, valid_policy, expected_policy_set, children, leaf, at_depth, without_childless}
use Rattle.path_policies.specs.Tree.{inhibit_any_policy, add_policies, add_expected, adds_expected, with_policies}
use Rattle.path_policies.specs.TreeLaws.{IsNodeOf, IsTrace}
use Rattle.path_policies.proofs.TreeCounting.{inhibit_any_policy_is_exact}
use Rattle.path_policies.proofs.TreeMembers.{in_none, in_first, in_one, in_filter, from_filter, differ, unequal, among, found}
use Rattle.path_policies.proofs.Depths.{left_was, was_left, none_left, left_child, some_left}
use Rattle.path_policies.proofs.Growing.{Grown, Grows, AtEach, grows_as, grows_on, HasMatch, GetsNamedOf, GetsExpected, named_grows, expected_grows}
use Rattle.path_policies.proofs.Known.{Stands, StandsOrNull, HaveChildren}
use Rattle.path_policies.proofs.Traces.{IsReached, trace_to, valid_at, reached_at, at_reached}

module _ (q : PolicyQuery) (i : ℕ) (there : i < count q) (policies : List (List ℕ))
    (has : (certificate_numbered q (i + 1)).extensions.policies ≡ Some policies) where
  abbrev Valid : List ℕ → Type 0
  Valid = IsValidPolicy q i

  abbrev named : List (List ℕ)
  named = filter (λ policy. not (bytes_eq any_policy policy)) policies

  stated : (policy : List ℕ) → Contains policies policy → States q (i + 1) policy
  stated policy h = subst (λ o. MatchOption o ⊥ (λ l. Contains l policy)) (sym has) h

  states : (policy : List ℕ) → States q (i + 1) policy → Contains policies policy
  states policy h = subst (λ o. MatchOption o ⊥ (λ l. Contains l policy)) has h

  is_named : (policy : List ℕ) → Contains named policy → Names q (i + 1) policy
  is_named policy h =
      let kept = from_filter (λ p. not (bytes_eq any_policy p)) policies policy h in
      (stated policy kept.0, λ e. differ any_policy policy kept.1 (sym e))

  named_is : (policy : List ℕ) → Names q (i + 1) policy → Contains named policy
  named_is policy h =
      in_filter (λ p. not (bytes_eq any_policy p)) policies policy (states policy h.0) (unequal any_policy policy (λ e. h.1 (sym e)))

  -- anyPolicy counts
  allows : adds_expected q (i + 1) policies ≡ true → AllowsAny q (i + 1)
  allows h =
      let counter = inhibit_any_policy q (i + 1) in
      let cert = certificate_numbered q (i + 1) in
      let both = and_parts (list_any (bytes_eq any_policy) policies) (nat_lt 0 counter || (nat_lt (i + 1) (count q) && cert.self_issued)) h in
      let exact = inhibit_any_policy_is_exact q (i + 1) (omega arith) (omega arith) in (
        stated any_policy (among policies any_policy both.0),
        elim (or_cases (nat_lt 0 counter) (nat_lt (i + 1) (count q) && cert.self_issued) both.1) [
          | inl positive ↦ inl (λ inhibited. let zero_is = exact.1 inhibited in let more = ltb-true 0 counter positive in omega arith)
          | inr own ↦ let parts = and_parts (nat_lt (i + 1) (count q)) cert.self_issued own in inr (ltb-true (i + 1) (count q) parts.0, parts.1)
        ],
      )

  allowed : AllowsAny q (i + 1) → adds_expected q (i + 1) policies ≡ true
  allowed h =
      let counter = inhibit_any_policy q (i + 1) in
      let cert = certificate_numbered q (i + 1) in
      let exact = inhibit_any_policy_is_exact q (i + 1) (omega arith) (omega arith) in
      and_from (list_any (bytes_eq any_policy) policies) (nat_lt 0 counter || (nat_lt (i + 1) (count q) && cert.self_issued))
      (found policies any_policy (states any_policy h.0))
      (elim h.1 [
        | inl not_inhibited ↦ or_left (nat_lt 0 counter) (nat_lt (i + 1) (count q) && cert.self_issued)
            (lt-ltb 0 counter (elim (cases_eq counter 0) [ inl e ↦ absurd (not_inhibited (exact.0 e)) | inr more ↦ omega arith ]))
        | inr own ↦ or_right (nat_lt 0 counter) (nat_lt (i + 1) (count q) && cert.self_issued)
            (and_from (nat_lt (i + 1) (count q)) cert.self_issued (lt-ltb (i + 1) (count q) own.0) own.1)
      ])

  module _ (t : PolicyTree) (stands : Stands i (IsTrace q) (Expects q i) t) where
    -- some node expects what some policy expects
    match_is : (policy : List ℕ) → HasMatch i t policy → IsExpectedOf q i Valid policy
    match_is policy h =
        (valid_policy h.1, valid_at q i h.0 (valid_policy h.1) h.2 (stands.sound h.0 h.1 h.2 h.3), (stands.expected h.0 h.1 h.2 h.3 policy).0 h.4)

    is_match : (policy : List ℕ) → IsExpectedOf q i Valid policy → HasMatch i t policy
    is_match policy h =
        let up = trace_to q i h.0 h.1 in
        let u = stands.complete up.0 h.0 up.1 up.2 in
        (up.0, u.0, up.1, u.1, (stands.expected up.0 u.0 up.1 u.1 policy).1 (subst (λ p. Expects q i p policy) (sym u.2) h.2))

    abbrev GetsFirst : PolicyTree → PolicyTree → Type 0
    GetsFirst = GetsNamedOf i t named

    abbrev GetsThen : PolicyTree → PolicyTree → Type 0
    GetsThen old c = (adds_expected q (i + 1) policies ≡ true) × GetsExpected i (GetsFirst old) old c

    -- the children of a node are the policies that follow below its own
    abbrev pub GetsFollowing : PolicyTree → PolicyTree → Type 0
    GetsFollowing old c = (policy : List ℕ) × Follows q i Valid (valid_policy old) policy × (c ≡ leaf policy (policy ∷ []))

    first_follows : AtEach i t (λ old. (c : PolicyTree) → GetsFirst old c → GetsFollowing old c)
    first_follows above old d is c h =
        let name = is_named h.0 h.1 in (
          h.0,
          elim h.2.0 [
            | inl expects ↦ inl (name, (stands.expected above old d is h.0).0 expects)
            | inr unmatched ↦ inr (inl (name, (λ e. unmatched.0 (is_match h.0 e), unmatched.1)))
          ],
          h.2.1,
        )

    then_follows : AtEach i t (λ old. (c : PolicyTree) → GetsThen old c → GetsFollowing old c)
    then_follows above old d is c h =
        let p = h.1.0 in
        let unnamed = λ (name : Names q (i + 1) p).
        h.1.2 (leaf p (p ∷ [])) (p, named_is p name, (inl h.1.1, refl)) refl in
        (p, inr (inr (unnamed, (allows h.0, (stands.expected above old d is p).0 h.1.1))), h.1.3)

    follows_so : AtEach i t (λ old. (c : PolicyTree) → GetsFollowing old c → GetsFirst old c ⊎ GetsThen old c)
    follows_so above old d is c (p, inl first, e) = inl (p, named_is p first.0, (inl ((stands.expected above old d is p).1 first.1), e))
    follows_so above old d is c (p, inr (inl any), e) =
        inl (p, named_is p any.0, (inr (λ m. any.1.0 (match_is p m), any.1.1), e))
    follows_so above old d is c (p, inr (inr unnamed), e) =
        inr (
          allowed unnamed.1.0,
          (
            p,
            (stands.expected above old d is p).1 unnamed.1.1,
            λ other gets same_policy.
                unnamed.0 (subst (λ x. Names q (i + 1) x) (sym (same_policy ∙ ap valid_policy gets.2.1)) (is_named gets.0 gets.1)),
            e,
          ),
        )

    abbrev first : PolicyTree
    first = add_policies i policies t

    -- what a node expects has a child of its own unless it got one before
    then_same : AtEach i t (λ old. (u : PolicyTree) → Grown (GetsFirst old) old u → adds_expected q (i + 1) policies ≡ true
        → (c : PolicyTree) → GetsExpected i (Contains (children u)) u c ↔ GetsThen old c)
    then_same above old d is u grown adds c = (
      λ h. (adds, (h.0, subst (λ l. Contains l h.0) grown.expected h.1, λ other gets. h.2 other (grown.got other gets), h.3)),
      λ h. (
        h.1.0,
        subst (λ l. Contains l h.1.0) (sym grown.expected) h.1.1,
        λ other child. h.1.2 other (elim (grown.from other child) [
          | inl was ↦ in_none other (subst (λ l. Contains l other) (stands.last above old d is) was)
          | inr gets ↦ gets
        ]),
        h.1.3,
      ),
    )

    abbrev grown_tree : PolicyTree
    grown_tree = cond (adds_expected q (i + 1) policies) (at_depth i add_expected first) first

    grows : Grows i GetsFollowing t grown_tree
    grows =
        let one = named_grows i named t in
        let filled = at_depth i add_expected first in
        elim (cases_Bool (adds_expected q (i + 1) policies)) [
          | inl adds ↦ subst (λ b. Grows i GetsFollowing t (cond b filled first)) (sym adds)
              (grows_as i (λ old c. GetsFirst old c ⊎ GetsThen old c) GetsFollowing t filled
              (λ above old d is c. (
                λ h. elim h [ inl one ↦ first_follows above old d is c one | inr two ↦ then_follows above old d is c two ],
                follows_so above old d is c,
              ))
              (grows_on i GetsFirst GetsThen (λ u. GetsExpected i (Contains (children u)) u) t first filled
              (λ above old d is u grown. then_same above old d is u grown adds)
              one (expected_grows i first)))
          | inr not_adds ↦ subst (λ b. Grows i GetsFollowing t (cond b filled first)) (sym not_adds)
              (grows_as i GetsFirst GetsFollowing t first
              (λ above old d is c. (
                first_follows above old d is c,
                λ h. elim (follows_so above old d is c h) [ inl one ↦ one | inr two ↦ absurd (false≢true (sym not_adds ∙ two.0)) ],
              )) one)
        ]

    -- a node of the next depth stands for what follows
    grown_child : (above : List (List ℕ)) (parent : List ℕ) (u : PolicyTree) → length above ≡ i → IsNodeOf grown_tree (parent ∷ above) u
        → IsTrace q (parent ∷ above) × ((policy : List ℕ) × Follows q i Valid parent policy × (u ≡ leaf policy (policy ∷ [])))
    grown_child above parent u d is =
        let old = grows.each above is.0 d is.1 in
        let of_old = sym (old.2).policy ∙ is.2 in
        let up = subst (λ p. IsTrace q (p ∷ above)) of_old (stands.sound above old.0 d old.1) in
        elim ((old.2).from u is.3) [
          | inl was ↦ in_none u (subst (λ l. Contains l u) (stands.last above old.0 d old.1) was)
          | inr got ↦ (up, (got.0, subst (λ p. Follows q i Valid p got.0) of_old got.1, got.2))
        ]

    child_grown : (above : List (List ℕ)) (parent policy : List ℕ) → length above ≡ i → IsTrace q (parent ∷ above)
        → Follows q i Valid parent policy → IsNodeOf grown_tree (parent ∷ above) (leaf policy (policy ∷ []))
    child_grown above parent policy d up follows =
        let old = stands.complete above parent d up in
        let new = grows.all above old.0 d old.1 in (
          new.0,
          new.1,
          (new.2).policy ∙ old.2,
          (new.2).got (leaf policy (policy ∷ [])) (policy, subst (λ p. Follows q i Valid p policy) (sym old.2) follows, refl),
        )

    module _ (left : PolicyTree) (e : without_childless i grown_tree ≡ Some left) where
      deleted : (above : List (List ℕ)) → length above ≡ i → without_childless (length above) grown_tree ≡ Some left
      deleted above d = subst (λ n. without_childless n grown_tree ≡ Some left) (sym d) e

      child_left : (above : List (List ℕ)) (parent : List ℕ) (u : PolicyTree) → length above ≡ i → IsNodeOf left (parent ∷ above) u
          → IsTrace q (parent ∷ above) × ((policy : List ℕ) × Follows q i Valid parent policy × (u ≡ leaf policy (policy ∷ [])))
      child_left above parent u d is = grown_child above parent u d (left_was parent above grown_tree left u (deleted above d) is)

      last_left : AtEach (suc i) left (λ u. children u ≡ [])
      last_left [] u d is = absurd (omega arith)
      last_left (parent ∷ above) u d is = ap children (child_left above parent u (omega arith) is).1.2

      sound_left : (above : List (List ℕ)) (u : PolicyTree) → length above ≡ suc i → IsNodeOf left above u → IsReached q (valid_policy u ∷ above)
      sound_left [] u d is = absurd (omega arith)
      sound_left (parent ∷ above) u d is =
          let h = child_left above parent u (omega arith) is in
          subst (λ p. IsReached q (p ∷ parent ∷ above)) (sym (ap valid_policy h.1.2)) (at_reached q i above parent h.1.0 (omega arith) h.0 h.1.1)

      complete_left : (above : List (List ℕ)) (policy : List ℕ) → length above ≡ suc i → IsReached q (policy ∷ above)
          → (u : PolicyTree) × IsNodeOf left above u × (valid_policy u ≡ policy)
      complete_left [] policy d h = absurd (omega arith)
      complete_left (parent ∷ above) policy d h =
          let at : length above ≡ i = omega arith in
          let r = reached_at q i above parent policy at h in
          let u = leaf policy (policy ∷ []) in
          (u, was_left parent above grown_tree left u (deleted above at) (child_grown above parent policy at r.0 r.1), refl)

      expected_left : AtEach (suc i) left (λ u. (policy : List ℕ) → Contains (expected_policy_set u) policy ↔ (policy ≡ valid_policy u))
      expected_left [] u d is policy = absurd (omega arith)
      expected_left (parent ∷ above) u d is policy =
          let h = child_left above parent u (omega arith) is in
          let own = h.1.0 in
          let named_so : valid_policy u ≡ own = ap valid_policy h.1.2 in
          let set : expected_policy_set u ≡ own ∷ [] = ap expected_policy_set h.1.2 in (
            λ among_set. sym (in_one own policy (subst (λ l. Contains l policy) set among_set)) ∙ sym named_so,
            λ is_own. subst (λ l. Contains l policy) (sym set) (subst (λ x. Contains (own ∷ []) x) (sym (is_own ∙ named_so)) (in_first own [])),
          )

    not_null : without_childless i grown_tree ≡ None → (above : List (List ℕ)) (policy : List ℕ) → length above ≡ suc i
        → IsReached q (policy ∷ above) → ⊥
    not_null e [] policy d h = absurd (omega arith)
    not_null e (parent ∷ above) policy d h =
        let at : length above ≡ i = omega arith in
        let r = reached_at q i above parent policy at h in
        none_left parent above grown_tree (leaf policy (policy ∷ [])) (subst (λ n. without_childless n grown_tree ≡ None) (sym at) e)
        (child_grown above parent policy at r.0 r.1)

    pub next_stands : StandsOrNull (suc i) (IsReached q) (λ own policy. policy ≡ own) (with_policies q i policies t)
    next_stands = record {
      stands = λ left e. record { last = last_left left e; sound = sound_left left e; complete = complete_left left e; expected = expected_left left e };
      some = λ left e. some_left i grown_tree left e;
      none = not_null;
    }

    pub next_have_children : HaveChildren i (with_policies q i policies t)
    next_have_children left e above u d is = left_child above grown_tree left u (deleted left e above d) is
