-- What children the nodes of one depth get from the policies of a certificate.
use Rattle.std.proofs.Common.{◌≡◌, ◌≢◌, ◌↔◌, ◌⊎◌, ℕ, List, [], ◌∷◌, ◌++◌, Bool, true, not, cond, map, filter, fold, length, refl, sym, ◌∙◌, subst, inl, inr}
use Rattle.std.specs.List.{Contains, list_any}
use Rattle.std.proofs.lemmas.Bool.{cases_Bool, false≢true}
use Rattle.std.proofs.lemmas.List.Elements.{Contains-append_left, Contains-append_right, Contains-append_cases}
use Rattle.path_policies.specs.Query.{any_policy}
use Rattle.path_policies.specs.Nodes.{PolicyTree, valid_policy, expected_policy_set, children, is_of, expects, leaf, with_child, where_true, at_depth, some_at}
use Rattle.path_policies.specs.Tree.{add_policy, add_expected}
use Rattle.path_policies.specs.TreeLaws.{IsNodeOf}
use Rattle.path_policies.proofs.TreeMembers.{in_none, in_first, in_rest, in_cases, in_one, in_map, from_map, in_filter, from_filter, none_passes, not_any, same, equal, among, found}
use Rattle.path_policies.proofs.Depths.{unchanged, changed, some_there, there_is, child_given, given_child}

-- a node that got these children
pub record Grown (Gets : PolicyTree → Type 0) (old new : PolicyTree) : Type 0 where
  pub policy : valid_policy new ≡ valid_policy old
  pub expected : expected_policy_set new ≡ expected_policy_set old
  pub from : (c : PolicyTree) → Contains (children new) c → Contains (children old) c ⊎ Gets c
  pub kept : (c : PolicyTree) → Contains (children old) c → Contains (children new) c
  pub got : (c : PolicyTree) → Gets c → Contains (children new) c

-- a tree whose nodes of one depth did
pub record Grows (depth : ℕ) (Gets : PolicyTree → PolicyTree → Type 0) (t new : PolicyTree) : Type 0 where
  pub each : (above : List (List ℕ)) (u : PolicyTree) → length above ≡ depth → IsNodeOf new above u
      → (old : PolicyTree) × IsNodeOf t above old × Grown (Gets old) old u
  pub all : (above : List (List ℕ)) (old : PolicyTree) → length above ≡ depth → IsNodeOf t above old
      → (u : PolicyTree) × IsNodeOf new above u × Grown (Gets old) old u

grown_as : (First Second : PolicyTree → Type 0) (old new : PolicyTree) → ((c : PolicyTree) → First c ↔ Second c) → Grown First old new → Grown Second old new
grown_as First Second old new agree g = record {
  policy = g.policy;
  expected = g.expected;
  from = λ c h. elim (g.from c h) [ inl was ↦ inl was | inr got ↦ inr ((agree c).0 got) ];
  kept = g.kept;
  got = λ c h. g.got c ((agree c).1 h);
}

grown_on : (First Second : PolicyTree → Type 0) (a b c : PolicyTree) → Grown First a b → Grown Second b c → Grown (λ u. First u ⊎ Second u) a c
grown_on First Second a b c one two = record {
  policy = two.policy ∙ one.policy;
  expected = two.expected ∙ one.expected;
  from = λ u h. elim (two.from u h) [
    | inl before ↦ elim (one.from u before) [ inl was ↦ inl was | inr got ↦ inr (inl got) ]
    | inr got ↦ inr (inr got)
  ];
  kept = λ u h. two.kept u (one.kept u h);
  got = λ u h. elim h [ inl first ↦ two.kept u (one.got u first) | inr second ↦ two.got u second ];
}

module _ (depth : ℕ) where
  -- a statement of each node of that depth
  abbrev pub AtEach : PolicyTree → (PolicyTree → Type 0) → Type 0
  AtEach t P = (above : List (List ℕ)) (u : PolicyTree) → length above ≡ depth → IsNodeOf t above u → P u

  pub grows_as : (First Second : PolicyTree → PolicyTree → Type 0) (t new : PolicyTree)
      → AtEach t (λ old. (c : PolicyTree) → First old c ↔ Second old c) → Grows depth First t new → Grows depth Second t new
  grows_as First Second t new agree g = record {
    each = λ above u d is.
        let old = g.each above u d is in
        (old.0, old.1, grown_as (First old.0) (Second old.0) old.0 u (agree above old.0 d old.1) old.2);
    all = λ above old d is.
        let u = g.all above old d is in
        (u.0, u.1, grown_as (First old) (Second old) old u.0 (agree above old d is) u.2);
  }

  pub grows_on : (First Second Then : PolicyTree → PolicyTree → Type 0) (t mid new : PolicyTree)
      → AtEach t (λ old. (u : PolicyTree) → Grown (First old) old u → (c : PolicyTree) → Then u c ↔ Second old c)
      → Grows depth First t mid → Grows depth Then mid new → Grows depth (λ old c. First old c ⊎ Second old c) t new
  grows_on First Second Then t mid new agree one two = record {
    each = λ above u d is.
        let between = two.each above u d is in
        let old = one.each above between.0 d between.1 in
        let then = grown_as (Then between.0) (Second old.0) between.0 u (agree above old.0 d old.1 between.0 old.2) between.2 in
        (old.0, old.1, grown_on (First old.0) (Second old.0) old.0 between.0 u old.2 then);
    all = λ above old d is.
        let between = one.all above old d is in
        let u = two.all above between.0 d between.1 in
        let then = grown_as (Then between.0) (Second old) between.0 u.0 (agree above old d is between.0 between.2) u.2 in
        (u.0, u.1, grown_on (First old) (Second old) old between.0 u.0 between.2 then);
  }

  -- a change of the nodes of that depth, each of which grows
  pub grows_by : (Gets : PolicyTree → PolicyTree → Type 0) (change : PolicyTree → PolicyTree) (t : PolicyTree)
      → ((u : PolicyTree) → Grown (Gets u) u (change u)) → Grows depth Gets t (at_depth depth change t)
  grows_by Gets change t by = record {
    each = λ above u d is.
        let old = unchanged above change t u (subst (λ n. IsNodeOf (at_depth n change t) above u) (sym d) is) in
        (old.0, old.1, subst (λ new. Grown (Gets old.0) old.0 new) (sym old.2) (by old.0));
    all = λ above old d is.
        (change old, subst (λ n. IsNodeOf (at_depth n change t) above (change old)) d (changed above change t old is), by old);
  }

  pub grows_not : (Gets : PolicyTree → PolicyTree → Type 0) (t : PolicyTree) → ((old c : PolicyTree) → Gets old c → ⊥) → Grows depth Gets t t
  grows_not Gets t never = record {
    each = λ above u d is. (u, is, stays u);
    all = λ above u d is. (u, is, stays u);
  } where
    stays : (u : PolicyTree) → Grown (Gets u) u u
    stays u = record { policy = refl; expected = refl; from = λ c h. inl h; kept = λ c h. h; got = λ c h. absurd (never u c h) }

  -- a node that passes a test gets a child

  grown_where : (test : PolicyTree → Bool) (child u : PolicyTree)
      → Grown (λ c. (test u ≡ true) × (c ≡ child)) u (where_true test (with_child child) u)
  grown_where test child u = elim (cases_Bool (test u)) [
    | inl t ↦ subst (λ b. Grown (λ c. (test u ≡ true) × (c ≡ child)) u (cond b (with_child child u) u)) (sym t) (record {
      policy = refl;
      expected = refl;
      from = λ c h. elim (Contains-append_cases (children u) (child ∷ []) c (given_child (children u ++ child ∷ []) u c h)) [
        | inl was ↦ inl was
        | inr new ↦ inr (t, sym (in_one child c new))
      ];
      kept = λ c h. child_given (children u ++ child ∷ []) u c (Contains-append_left (children u) (child ∷ []) c h);
      got = λ c h. child_given (children u ++ child ∷ []) u c
          (Contains-append_right (children u) (child ∷ []) c (subst (λ x. Contains (child ∷ []) x) (sym h.1) (in_first child [])));
    })
    | inr f ↦ subst (λ b. Grown (λ c. (test u ≡ true) × (c ≡ child)) u (cond b (with_child child u) u)) (sym f) (record {
      policy = refl;
      expected = refl;
      from = λ c h. inl h;
      kept = λ c h. h;
      got = λ c h. absurd (false≢true (sym f ∙ h.0));
    })
  ]

  pub grows_where : (test : PolicyTree → Bool) (child t : PolicyTree)
      → Grows depth (λ old c. (test old ≡ true) × (c ≡ child)) t (at_depth depth (where_true test (with_child child)) t)
  grows_where test child t = grows_by (λ old c. (test old ≡ true) × (c ≡ child)) (where_true test (with_child child)) t (grown_where test child)

  -- 6.1.3 (d) (1)

  abbrev pub HasMatch : PolicyTree → List ℕ → Type 0
  HasMatch t policy = (above : List (List ℕ)) × (u : PolicyTree) × (length above ≡ depth) × IsNodeOf t above u × Contains (expected_policy_set u) policy

  abbrev pub GetsNamed : PolicyTree → List ℕ → PolicyTree → PolicyTree → Type 0
  GetsNamed t policy old c =
      (Contains (expected_policy_set old) policy ⊎ (¬ HasMatch t policy × (valid_policy old ≡ any_policy)))
      × (c ≡ leaf policy (policy ∷ []))

  some_matches : (t : PolicyTree) (policy : List ℕ) → some_at depth (expects policy) t ≡ true → HasMatch t policy
  some_matches t policy h =
      let some = some_there depth (expects policy) t h in
      (some.0, some.1, some.2, some.3, among (expected_policy_set some.1) policy some.4)

  matches_some : (t : PolicyTree) (policy : List ℕ) → HasMatch t policy → some_at depth (expects policy) t ≡ true
  matches_some t policy h =
      subst (λ n. some_at n (expects policy) t ≡ true) h.2
      (there_is h.0 (expects policy) t h.1 h.3 (found (expected_policy_set h.1) policy h.4))

  one_grows : (t : PolicyTree) (policy : List ℕ) → Grows depth (GetsNamed t policy) t (add_policy depth t policy)
  one_grows t policy =
      let child = leaf policy (policy ∷ []) in
      let matched = at_depth depth (where_true (expects policy) (with_child child)) t in
      let other = at_depth depth (where_true (is_of any_policy) (with_child child)) t in
      elim (cases_Bool (some_at depth (expects policy) t)) [
        | inl some ↦ subst (λ b. Grows depth (GetsNamed t policy) t (cond b matched other)) (sym some)
            (grows_as (λ old c. (expects policy old ≡ true) × (c ≡ child)) (GetsNamed t policy) t matched
            (λ above u d is c. (
              λ h. (inl (among (expected_policy_set u) policy h.0), h.1),
              λ h. (
                elim h.0 [
                  | inl has ↦ found (expected_policy_set u) policy has
                  | inr none ↦ absurd (none.0 (some_matches t policy some))
                ],
                h.1,
              ),
            ))
            (grows_where (expects policy) child t))
        | inr none ↦
            let never : ¬ HasMatch t policy = λ h. false≢true (sym none ∙ matches_some t policy h) in
            subst (λ b. Grows depth (GetsNamed t policy) t (cond b matched other)) (sym none)
            (grows_as (λ old c. (is_of any_policy old ≡ true) × (c ≡ child)) (GetsNamed t policy) t other
            (λ above u d is c. (
              λ h. (inr (never, sym (same any_policy (valid_policy u) h.0)), h.1),
              λ h. (
                elim h.0 [
                  | inl has ↦ absurd (never (above, u, d, is, has))
                  | inr any ↦ equal any_policy (valid_policy u) (sym any.1)
                ],
                h.1,
              ),
            ))
            (grows_where (is_of any_policy) child t))
      ]

  -- who expects what stays so
  match_before : (Gets : PolicyTree → PolicyTree → Type 0) (t new : PolicyTree) (policy : List ℕ) → Grows depth Gets t new → HasMatch new policy → HasMatch t policy
  match_before Gets t new policy g h =
      let old = g.each h.0 h.1 h.2 h.3 in
      (h.0, old.0, h.2, old.1, subst (λ l. Contains l policy) (old.2).expected h.4)

  match_after : (Gets : PolicyTree → PolicyTree → Type 0) (t new : PolicyTree) (policy : List ℕ) → Grows depth Gets t new → HasMatch t policy → HasMatch new policy
  match_after Gets t new policy g h =
      let u = g.all h.0 h.1 h.2 h.3 in
      (h.0, u.0, h.2, u.1, subst (λ l. Contains l policy) (sym (u.2).expected) h.4)

  named_same : (Gets : PolicyTree → PolicyTree → Type 0) (t new : PolicyTree) (policy : List ℕ) → Grows depth Gets t new
      → (old u : PolicyTree) → Grown (Gets old) old u → (c : PolicyTree) → GetsNamed new policy u c ↔ GetsNamed t policy old c
  named_same Gets t new policy g old u grown c = (
    λ h. (
      elim h.0 [
        | inl has ↦ inl (subst (λ l. Contains l policy) grown.expected has)
        | inr any ↦ inr (λ m. any.0 (match_after Gets t new policy g m), sym grown.policy ∙ any.1)
      ],
      h.1,
    ),
    λ h. (
      elim h.0 [
        | inl has ↦ inl (subst (λ l. Contains l policy) (sym grown.expected) has)
        | inr any ↦ inr (λ m. any.0 (match_before Gets t new policy g m), grown.policy ∙ any.1)
      ],
      h.1,
    ),
  )

  abbrev pub GetsNamedOf : PolicyTree → List (List ℕ) → PolicyTree → PolicyTree → Type 0
  GetsNamedOf t policies old c = (policy : List ℕ) × Contains policies policy × GetsNamed t policy old c

  pub named_grows : (policies : List (List ℕ)) (t : PolicyTree) → Grows depth (GetsNamedOf t policies) t (fold (add_policy depth) t policies)
  named_grows [] t = grows_not (GetsNamedOf t []) t (λ old c h. in_none h.0 h.1)
  named_grows (policy ∷ policies) t =
      let next = add_policy depth t policy in
      let one = one_grows t policy in
      grows_as (λ old c. GetsNamed t policy old c ⊎ GetsNamedOf t policies old c) (GetsNamedOf t (policy ∷ policies)) t
      (fold (add_policy depth) next policies)
      (λ above u d is c. (
        λ h. elim h [
          | inl first ↦ (policy, in_first policy policies, first)
          | inr rest ↦ (rest.0, in_rest policy rest.0 policies rest.1, rest.2)
        ],
        λ h. elim (in_cases policy h.0 policies h.1) [
          | inl e ↦ inl (subst (λ p. GetsNamed t p u c) (sym e) h.2)
          | inr later ↦ inr (h.0, later, h.2)
        ],
      ))
      (grows_on (GetsNamed t policy) (GetsNamedOf t policies) (GetsNamedOf next policies) t next (fold (add_policy depth) next policies)
      (λ above old d is u grown c. (
        λ h. (h.0, h.1, (named_same (GetsNamed t policy) t next h.0 one old u grown c).0 h.2),
        λ h. (h.0, h.1, (named_same (GetsNamed t policy) t next h.0 one old u grown c).1 h.2),
      ))
      one (named_grows policies next))

  -- 6.1.3 (d) (2)

  abbrev pub GetsExpected : (PolicyTree → Type 0) → PolicyTree → PolicyTree → Type 0
  GetsExpected IsChild old c =
      (policy : List ℕ) × Contains (expected_policy_set old) policy
      × ((other : PolicyTree) → IsChild other → policy ≢ valid_policy other) × (c ≡ leaf policy (policy ∷ []))

  grown_expected : (u : PolicyTree) → Grown (GetsExpected (Contains (children u)) u) u (add_expected u)
  grown_expected u =
      let test = λ (policy : List ℕ). not (list_any (is_of policy) (children u)) in
      let missing = filter test (expected_policy_set u) in
      let new = map (λ (policy : List ℕ). leaf policy (policy ∷ [])) missing in record {
        policy = refl;
        expected = refl;
        from = λ c h. elim (Contains-append_cases (children u) new c (given_child (children u ++ new) u c h)) [
          | inl was ↦ inl was
          | inr is_new ↦
              let p = from_map (λ (policy : List ℕ). leaf policy (policy ∷ [])) missing c is_new in
              let kept = from_filter test (expected_policy_set u) p.0 p.1 in
              inr (p.0, kept.0, λ other is e. none_passes (is_of p.0) (children u) other is kept.1 (equal p.0 (valid_policy other) e), sym p.2)
        ];
        kept = λ c h. child_given (children u ++ new) u c (Contains-append_left (children u) new c h);
        got = λ c h.
            let lacks = not_any (is_of h.0) (children u) (λ other is t. h.2 other is (same h.0 (valid_policy other) t)) in
            let is_new = in_map (λ (policy : List ℕ). leaf policy (policy ∷ [])) missing h.0 (in_filter test (expected_policy_set u) h.0 h.1 lacks) in
            child_given (children u ++ new) u c (Contains-append_right (children u) new c (subst (λ x. Contains new x) (sym h.3) is_new));
      }

  pub expected_grows : (t : PolicyTree)
      → Grows depth (λ old. GetsExpected (Contains (children old)) old) t (at_depth depth add_expected t)
  expected_grows t = grows_by (λ old. GetsExpected (Contains (children old)) old) add_expected t grown_expected
