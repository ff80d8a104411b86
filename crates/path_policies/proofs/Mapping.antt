-- The mappings of a certificate where policy_mapping is greater than 0 (6.1.4 (b) (1)).
use Rattle.std.proofs.Common.{◌≡◌, ◌≢◌, ◌↔◌, ◌⊎◌, ℕ, suc, List, [], ◌∷◌, true, false, cond, map, fold, length, arith, refl, ap, sym, ◌∙◌, subst, inl, inr}
use Rattle.std.specs.List.{Contains}
use Rattle.std.proofs.lemmas.Bool.{cases_Bool, false≢true}
use Rattle.cert_policies.specs.PolicyExtensions.{PolicyMapping}
use Rattle.path_policies.specs.Query.{PolicyQuery, any_policy}
use Rattle.path_policies.specs.Policies.{Follows, IsFollowing, IsValidPolicy}
use Rattle.path_policies.specs.Nodes.{PolicyTree, valid_policy, expected_policy_set, children, is_of, leaf, with_children, with_child, with_expected, where_true, at_depth, some_at}
use Rattle.path_policies.specs.Tree.{subjects_of, map_policy}
use Rattle.path_policies.specs.TreeLaws.{IsNodeOf, IsTrace}
use Rattle.path_policies.proofs.TreeMembers.{in_none, in_first, in_rest, in_cases, same, equal}
use Rattle.path_policies.proofs.Depths.{unchanged, changed, some_there, there_is, listed-trees_of}
use Rattle.path_policies.proofs.Growing.{AtEach, Grows, grows_where}
use Rattle.path_policies.proofs.Known.{Stands, stands_as}
use Rattle.path_policies.proofs.Traces.{IsReached, following_trace, trace_following, reached_at, at_reached}

module _ (q : PolicyQuery) (i : ℕ) (mappings : List PolicyMapping) where
  abbrev Valid : List ℕ → Type 0
  Valid = IsValidPolicy q i

  -- a mapped policy that was not there came below anyPolicy, where anyPolicy was there
  abbrev pub IsMade : (List ℕ → Type 0) → List (List ℕ) → Type 0
  IsMade IsDone [] = ⊥
  IsMade IsDone (policy ∷ []) = ⊥
  IsMade IsDone (policy ∷ parent ∷ above) =
      IsDone policy × (¬ IsFollowing q i Valid policy) × IsFollowing q i Valid any_policy × (parent ≡ any_policy) × IsTrace q (parent ∷ above)

  -- the branches where the policies that are done were mapped
  abbrev pub IsThere : (List ℕ → Type 0) → List (List ℕ) → Type 0
  IsThere IsDone branch = IsReached q branch ⊎ IsMade IsDone branch

  -- these expect what they are mapped to, and the others themselves
  abbrev pub Wants : (List ℕ → Type 0) → List ℕ → List ℕ → Type 0
  Wants IsDone own policy = (IsDone own × Contains (subjects_of mappings own) policy) ⊎ (¬ IsDone own × (policy ≡ own))

  -- the nodes above them stand for traces
  abbrev pub AreTraces : PolicyTree → Type 0
  AreTraces t = (above : List (List ℕ)) (u : PolicyTree) → length above ≡ i → IsNodeOf t above u → IsTrace q (valid_policy u ∷ above)

  pub record Mapped (IsDone : List ℕ → Type 0) (t : PolicyTree) : Type 0 where
    pub stands : Stands (suc i) (IsThere IsDone) (Wants IsDone) t
    pub parents : AreTraces t

  abbrev MadeAs : (First Second : List ℕ → Type 0) → Type 0
  MadeAs First Second = (policy : List ℕ) → First policy → Second policy

  there_more : (First Second : List ℕ → Type 0) → MadeAs First Second → (branch : List (List ℕ)) → IsThere First branch → IsThere Second branch
  there_more First Second more branch (inl reached) = inl reached
  there_more First Second more [] (inr made) = inr made
  there_more First Second more (policy ∷ []) (inr made) = inr made
  there_more First Second more (policy ∷ parent ∷ above) (inr made) = inr (more policy made.0, made.1, made.2, made.3, made.4)

  wants_as : (First Second : List ℕ → Type 0) (own policy : List ℕ) → (First own → Second own) → (Second own → First own)
      → Wants First own policy → Wants Second own policy
  wants_as First Second own policy to back (inl h) = inl (to h.0, h.1)
  wants_as First Second own policy to back (inr h) = inr ((λ d. h.0 (back d)), h.1)

  pub mapped_as : (First Second : List ℕ → Type 0) → MadeAs First Second → MadeAs Second First → (t : PolicyTree) → Mapped First t → Mapped Second t
  mapped_as First Second to back t s = record {
    stands = stands_as (suc i) (IsThere First) (IsThere Second) (Wants First) (Wants Second)
        (λ above policy d. (there_more First Second to (policy ∷ above), there_more Second First back (policy ∷ above)))
        (λ above own policy d right. (wants_as First Second own policy (to own) (back own), wants_as Second First own policy (back own) (to own)))
        t s.stands;
    parents = s.parents;
  }

  module _ (any_only : (parent : List ℕ) → Follows q i Valid parent any_policy → parent ≡ any_policy) (IsDone : List ℕ → Type 0)
      (m : PolicyMapping) (t : PolicyTree) (s : Mapped IsDone t) where
    abbrev mapped : List ℕ
    mapped = m.issuer_domain_policy

    abbrev subjects : List (List ℕ)
    subjects = subjects_of mappings mapped

    abbrev IsDoneNow : List ℕ → Type 0
    IsDoneNow own = IsDone own ⊎ (mapped ≡ own)

    -- some node at that depth has a policy exactly if a branch that is there ends in it
    node_of : (own : List ℕ) → some_at (suc i) (is_of own) t ≡ true
        → (parent : List ℕ) × (above : List (List ℕ)) × (length above ≡ i) × IsThere IsDone (own ∷ parent ∷ above)
    node_of own h = go some.0 some.2 some.3 (same own (valid_policy some.1) some.4) where
      some : (above : List (List ℕ)) × (u : PolicyTree) × (length above ≡ suc i) × IsNodeOf t above u × (is_of own u ≡ true)
      some = some_there (suc i) (is_of own) t h

      go : (above : List (List ℕ)) → length above ≡ suc i → IsNodeOf t above some.1 → own ≡ valid_policy some.1
          → (parent : List ℕ) × (higher : List (List ℕ)) × (length higher ≡ i) × IsThere IsDone (own ∷ parent ∷ higher)
      go [] d is e = absurd (omega arith)
      go (parent ∷ above) d is e = (
        parent,
        above,
        omega arith,
        subst (λ p. IsThere IsDone (p ∷ parent ∷ above)) (sym e) (s.stands.sound (parent ∷ above) some.1 d is),
      )

    of_node : (own : List ℕ) (above : List (List ℕ)) (u : PolicyTree) → length above ≡ suc i → IsNodeOf t above u → own ≡ valid_policy u
        → some_at (suc i) (is_of own) t ≡ true
    of_node own above u d is e = subst (λ n. some_at n (is_of own) t ≡ true) d (there_is above (is_of own) t u is (equal own (valid_policy u) e))

    -- what follows is there
    followed : (own : List ℕ) → IsFollowing q i Valid own → some_at (suc i) (is_of own) t ≡ true
    followed own h =
        let up = following_trace q i own h in
        let d : length (up.0 ∷ up.1) ≡ suc i = ap suc up.2 in
        let u = s.stands.complete (up.0 ∷ up.1) own d (inl (at_reached q i up.1 up.0 own up.2 up.3 up.4)) in
        of_node own (up.0 ∷ up.1) u.0 d u.1 (sym u.2)

    -- anyPolicy is there only if it follows
    any_follows : some_at (suc i) (is_of any_policy) t ≡ true → IsFollowing q i Valid any_policy
    any_follows h = let n = node_of any_policy h in elim n.3 [
      | inl reached ↦
          let r = reached_at q i n.1 n.0 any_policy n.2 reached in
          trace_following q i n.1 n.0 any_policy n.2 r.0 r.1
      | inr made ↦ made.2
    ]

    -- the node of depth i with anyPolicy that stands above it
    any_node : (above : List (List ℕ)) → length above ≡ i → IsTrace q (any_policy ∷ above) → IsFollowing q i Valid any_policy
        → (u : PolicyTree) × IsNodeOf t above u × (valid_policy u ≡ any_policy)
    any_node above d up h =
        let below = subst (λ p. Follows q i Valid p any_policy) (any_only h.0 h.2) h.2 in
        let child = s.stands.complete (any_policy ∷ above) any_policy (ap suc d) (inl (at_reached q i above any_policy any_policy d up below)) in
        (child.1.0, child.1.1, child.1.2)

    there_now : (branch : List (List ℕ)) → IsThere IsDone branch → IsThere IsDoneNow branch
    there_now = there_more IsDone IsDoneNow (λ own h. inl h)

    -- another policy expects what it expected
    wants_still : (own policy : List ℕ) → mapped ≢ own → Wants IsDone own policy ↔ Wants IsDoneNow own policy
    wants_still own policy other = (
      wants_as IsDone IsDoneNow own policy (λ d. inl d) (λ d. elim d [ inl before ↦ before | inr e ↦ absurd (other e) ]),
      wants_as IsDoneNow IsDone own policy (λ d. elim d [ inl before ↦ before | inr e ↦ absurd (other e) ]) (λ d. inl d),
    )

    wants_subjects : (own policy : List ℕ) → mapped ≡ own → Contains subjects policy ↔ Wants IsDoneNow own policy
    wants_subjects own policy e = (
      λ h. inl (inr e, subst (λ p. Contains (subjects_of mappings p) policy) e h),
      λ h. elim h [
        | inl wanted ↦ subst (λ p. Contains (subjects_of mappings p) policy) (sym e) wanted.1
        | inr not_done ↦ absurd (not_done.0 (inr e))
      ],
    )

    -- a node of the policy is there: each of them expects the others

    module _ (is_there : some_at (suc i) (is_of mapped) t ≡ true) where
      abbrev expecting : PolicyTree → PolicyTree
      expecting = where_true (is_of mapped) (with_expected subjects)

      abbrev one_expects : PolicyTree
      one_expects = at_depth (suc i) expecting t

      expecting_policy : (u : PolicyTree) → valid_policy (expecting u) ≡ valid_policy u
      expecting_policy u = elim (cases_Bool (is_of mapped u)) [
        | inl yes_of ↦ subst (λ b. valid_policy (cond b (with_expected subjects u) u) ≡ valid_policy u) (sym yes_of) refl
        | inr not_of ↦ subst (λ b. valid_policy (cond b (with_expected subjects u) u) ≡ valid_policy u) (sym not_of) refl
      ]

      expecting_children : (u : PolicyTree) → children (expecting u) ≡ children u
      expecting_children u = elim (cases_Bool (is_of mapped u)) [
        | inl yes_of ↦ subst (λ b. children (cond b (with_expected subjects u) u) ≡ children u) (sym yes_of) (listed-trees_of (children u))
        | inr not_of ↦ subst (λ b. children (cond b (with_expected subjects u) u) ≡ children u) (sym not_of) refl
      ]

      expecting_set : (u : PolicyTree) (policy : List ℕ)
          → ((own : List ℕ) → Contains (expected_policy_set u) own ↔ Wants IsDone (valid_policy u) own)
          → Contains (expected_policy_set (expecting u)) policy ↔ Wants IsDoneNow (valid_policy u) policy
      expecting_set u policy was = elim (cases_Bool (is_of mapped u)) [
        | inl yes_of ↦ subst (λ b. Contains (expected_policy_set (cond b (with_expected subjects u) u)) policy ↔ Wants IsDoneNow (valid_policy u) policy)
            (sym yes_of) (wants_subjects (valid_policy u) policy (same mapped (valid_policy u) yes_of))
        | inr not_of ↦
            let still = wants_still (valid_policy u) policy (λ e. false≢true (sym not_of ∙ equal mapped (valid_policy u) e)) in
            subst (λ b. Contains (expected_policy_set (cond b (with_expected subjects u) u)) policy ↔ Wants IsDoneNow (valid_policy u) policy)
            (sym not_of) (λ h. still.0 ((was policy).0 h), λ h. (was policy).1 (still.1 h))
      ]

      before_it : (above : List (List ℕ)) (u : PolicyTree) → length above ≡ suc i → IsNodeOf one_expects above u
          → (old : PolicyTree) × IsNodeOf t above old × (u ≡ expecting old)
      before_it above u d is = unchanged above expecting t u (subst (λ n. IsNodeOf (at_depth n expecting t) above u) (sym d) is)

      -- a branch that is there now was there: the policy that is done now either followed or had been made
      was_done : (own : List ℕ) → ¬ IsFollowing q i Valid own → mapped ≡ own → IsDone own
      was_done own unfollowed e = let n = node_of mapped is_there in elim n.3 [
        | inl reached ↦
            let r = reached_at q i n.1 n.0 mapped n.2 reached in
            absurd (unfollowed (subst (λ p. IsFollowing q i Valid p) e (trace_following q i n.1 n.0 mapped n.2 r.0 r.1)))
        | inr made ↦ subst IsDone e made.0
      ]

      was_there : (branch : List (List ℕ)) → IsThere IsDoneNow branch → IsThere IsDone branch
      was_there branch (inl reached) = inl reached
      was_there [] (inr made) = inr made
      was_there (own ∷ []) (inr made) = inr made
      was_there (own ∷ parent ∷ above) (inr made) =
          inr (elim made.0 [ inl before ↦ before | inr e ↦ was_done own made.1 e ], made.1, made.2, made.3, made.4)

      pub mapped_there : Mapped IsDoneNow one_expects
      mapped_there = record {
        stands = record {
          last = λ above u d is.
              let old = before_it above u d is in
              ap children old.2 ∙ (expecting_children old.0 ∙ s.stands.last above old.0 d old.1);
          sound = λ above u d is.
              let old = before_it above u d is in
              let own : valid_policy u ≡ valid_policy old.0 = ap valid_policy old.2 ∙ expecting_policy old.0 in
              there_now (valid_policy u ∷ above)
              (subst (λ p. IsThere IsDone (p ∷ above)) (sym own) (s.stands.sound above old.0 d old.1));
          complete = λ above own d h.
              let u = s.stands.complete above own d (was_there (own ∷ above) h) in (
                expecting u.0,
                subst (λ n. IsNodeOf (at_depth n expecting t) above (expecting u.0)) d (changed above expecting t u.0 u.1),
                expecting_policy u.0 ∙ u.2,
              );
          expected = λ above u d is policy.
              let old = before_it above u d is in
              let set = expecting_set old.0 policy (s.stands.expected above old.0 d old.1) in
              let own : valid_policy u ≡ valid_policy old.0 = ap valid_policy old.2 ∙ expecting_policy old.0 in (
                λ h. subst (λ p. Wants IsDoneNow p policy) (sym own) (set.0 (subst (λ x. Contains (expected_policy_set x) policy) old.2 h)),
                λ h. subst (λ x. Contains (expected_policy_set x) policy) (sym old.2) (set.1 (subst (λ p. Wants IsDoneNow p policy) own h)),
              );
        };
        parents = λ above u d is.
            let below = λ (x : PolicyTree). with_children x (map expecting (children x)) in
            let old = unchanged above below t u (subst (λ n. IsNodeOf (at_depth n below t) above u) (sym d) is) in
            subst (λ p. IsTrace q (p ∷ above)) (sym (ap valid_policy old.2)) (s.parents above old.0 d old.1);
      }

    -- no node of the policy is there

    module _ (not_there : some_at (suc i) (is_of mapped) t ≡ false) where
      not_followed : ¬ IsFollowing q i Valid mapped
      not_followed h = false≢true (sym not_there ∙ followed mapped h)

      other_policy : (above : List (List ℕ)) (u : PolicyTree) → length above ≡ suc i → IsNodeOf t above u → mapped ≢ valid_policy u
      other_policy above u d is e = false≢true (sym not_there ∙ of_node mapped above u d is e)

      -- but one of anyPolicy: the policy is made below anyPolicy

      module _ (has_any : some_at (suc i) (is_of any_policy) t ≡ true) where
        abbrev made_node : PolicyTree
        made_node = leaf mapped subjects

        abbrev one_made : PolicyTree
        one_made = at_depth i (where_true (is_of any_policy) (with_child made_node)) t

        grows : Grows i (λ old c. (is_of any_policy old ≡ true) × (c ≡ made_node)) t one_made
        grows = grows_where i (is_of any_policy) made_node t

        -- a node was there, or it is the one that was made
        old_or_made : (parent : List ℕ) (above : List (List ℕ)) (u : PolicyTree) → length above ≡ i → IsNodeOf one_made (parent ∷ above) u
            → IsNodeOf t (parent ∷ above) u ⊎ ((u ≡ made_node) × (parent ≡ any_policy) × IsTrace q (parent ∷ above))
        old_or_made parent above u d is =
            let old = grows.each above is.0 d is.1 in
            let named : valid_policy old.0 ≡ parent = sym (old.2).policy ∙ is.2 in
            elim ((old.2).from u is.3) [
              | inl was ↦ inl (old.0, old.1, named, was)
              | inr got ↦ inr (
                got.1,
                sym named ∙ sym (same any_policy (valid_policy old.0) got.0),
                subst (λ p. IsTrace q (p ∷ above)) named (s.parents above old.0 d old.1),
              )
            ]

        still_there : (parent : List ℕ) (above : List (List ℕ)) (u : PolicyTree) → length above ≡ i → IsNodeOf t (parent ∷ above) u
            → IsNodeOf one_made (parent ∷ above) u
        still_there parent above u d is =
            let new = grows.all above is.0 d is.1 in
            (new.0, new.1, (new.2).policy ∙ is.2, (new.2).kept u is.3)

        made_last : AtEach (suc i) one_made (λ u. children u ≡ [])
        made_last [] u d is = absurd (omega arith)
        made_last (parent ∷ above) u d is = elim (old_or_made parent above u (omega arith) is) [
          | inl was ↦ s.stands.last (parent ∷ above) u d was
          | inr made ↦ ap children made.0
        ]

        made_sound : (above : List (List ℕ)) (u : PolicyTree) → length above ≡ suc i → IsNodeOf one_made above u
            → IsThere IsDoneNow (valid_policy u ∷ above)
        made_sound [] u d is = absurd (omega arith)
        made_sound (parent ∷ above) u d is = elim (old_or_made parent above u (omega arith) is) [
          | inl was ↦ there_now (valid_policy u ∷ parent ∷ above) (s.stands.sound (parent ∷ above) u d was)
          | inr made ↦ subst (λ p. IsThere IsDoneNow (p ∷ parent ∷ above)) (sym (ap valid_policy made.0))
              (inr (inr refl, not_followed, any_follows has_any, made.1, made.2))
        ]

        made_complete : (above : List (List ℕ)) (own : List ℕ) → length above ≡ suc i → IsThere IsDoneNow (own ∷ above)
            → (u : PolicyTree) × IsNodeOf one_made above u × (valid_policy u ≡ own)
        made_complete [] own d h = absurd (omega arith)
        made_complete (parent ∷ above) own d (inl reached) =
            let u = s.stands.complete (parent ∷ above) own d (inl reached) in
            (u.0, still_there parent above u.0 (omega arith) u.1, u.2)
        made_complete (parent ∷ above) own d (inr made) = elim made.0 [
          | inl before ↦
              let u = s.stands.complete (parent ∷ above) own d (inr (before, made.1, made.2, made.3, made.4)) in
              (u.0, still_there parent above u.0 (omega arith) u.1, u.2)
          | inr e ↦
              let at : length above ≡ i = omega arith in
              let old = any_node above at (subst (λ p. IsTrace q (p ∷ above)) made.3 made.4) made.2 in
              let new = grows.all above old.0 at old.1 in (
                made_node,
                (
                  new.0,
                  new.1,
                  (new.2).policy ∙ (old.2 ∙ sym made.3),
                  (new.2).got made_node (equal any_policy (valid_policy old.0) (sym old.2), refl),
                ),
                e,
              )
        ]

        made_expected : AtEach (suc i) one_made
            (λ u. (policy : List ℕ) → Contains (expected_policy_set u) policy ↔ Wants IsDoneNow (valid_policy u) policy)
        made_expected [] u d is policy = absurd (omega arith)
        made_expected (parent ∷ above) u d is policy = elim (old_or_made parent above u (omega arith) is) [
          | inl was ↦
              let before = s.stands.expected (parent ∷ above) u d was policy in
              let still = wants_still (valid_policy u) policy (other_policy (parent ∷ above) u d was) in
              (λ h. still.0 (before.0 h), λ h. before.1 (still.1 h))
          | inr made ↦ subst (λ x. Contains (expected_policy_set x) policy ↔ Wants IsDoneNow (valid_policy x) policy) (sym made.0)
              (wants_subjects mapped policy refl)
        ]

        pub mapped_made : Mapped IsDoneNow one_made
        mapped_made = record {
          stands = record { last = made_last; sound = made_sound; complete = made_complete; expected = made_expected };
          parents = λ above u d is.
              let old = grows.each above u d is in
              subst (λ p. IsTrace q (p ∷ above)) (sym (old.2).policy) (s.parents above old.0 d old.1);
        }

      -- nor one of anyPolicy: nothing happens

      module _ (no_any : some_at (suc i) (is_of any_policy) t ≡ false) where
        never_made : (branch : List (List ℕ)) → IsThere IsDoneNow branch → IsThere IsDone branch
        never_made branch (inl reached) = inl reached
        never_made [] (inr made) = inr made
        never_made (own ∷ []) (inr made) = inr made
        never_made (own ∷ parent ∷ above) (inr made) = absurd (false≢true (sym no_any ∙ followed any_policy made.2))

        pub mapped_nothing : Mapped IsDoneNow t
        mapped_nothing = record {
          stands = record {
            last = s.stands.last;
            sound = λ above u d is. there_now (valid_policy u ∷ above) (s.stands.sound above u d is);
            complete = λ above own d h. s.stands.complete above own d (never_made (own ∷ above) h);
            expected = λ above u d is policy.
                let before = s.stands.expected above u d is policy in
                let still = wants_still (valid_policy u) policy (other_policy above u d is) in
                (λ h. still.0 (before.0 h), λ h. before.1 (still.1 h));
          };
          parents = s.parents;
        }

    pub one_mapped : Mapped IsDoneNow (map_policy i mappings t m)
    one_mapped =
        let expecting_tree = at_depth (suc i) (where_true (is_of mapped) (with_expected subjects)) t in
        let made_tree = at_depth i (where_true (is_of any_policy) (with_child (leaf mapped subjects))) t in
        let otherwise = cond (some_at (suc i) (is_of any_policy) t) made_tree t in
        elim (cases_Bool (some_at (suc i) (is_of mapped) t)) [
          | inl there ↦ subst (λ b. Mapped IsDoneNow (cond b expecting_tree otherwise)) (sym there) (mapped_there there)
          | inr not_there ↦ subst (λ b. Mapped IsDoneNow (cond b expecting_tree otherwise)) (sym not_there)
              (elim (cases_Bool (some_at (suc i) (is_of any_policy) t)) [
                | inl has_any ↦ subst (λ b. Mapped IsDoneNow (cond b made_tree t)) (sym has_any) (mapped_made not_there has_any)
                | inr no_any ↦ subst (λ b. Mapped IsDoneNow (cond b made_tree t)) (sym no_any) (mapped_nothing not_there no_any)
              ])
        ]

  -- the mappings one after the other

  abbrev pub IsDoneBy : (List ℕ → Type 0) → List PolicyMapping → List ℕ → Type 0
  IsDoneBy IsDone done own = IsDone own ⊎ ((m : PolicyMapping) × Contains done m × (m.issuer_domain_policy ≡ own))

  pub all_mapped : (any_only : (parent : List ℕ) → Follows q i Valid parent any_policy → parent ≡ any_policy)
      (rest : List PolicyMapping) (IsDone : List ℕ → Type 0) (t : PolicyTree) → Mapped IsDone t
      → Mapped (IsDoneBy IsDone rest) (fold (map_policy i mappings) t rest)
  all_mapped any_only [] IsDone t s =
      mapped_as IsDone (IsDoneBy IsDone []) (λ own d. inl d)
      (λ own d. elim d [ inl before ↦ before | inr one ↦ in_none one.0 one.1 ]) t s
  all_mapped any_only (m ∷ rest) IsDone t s =
      let now = λ (own : List ℕ). IsDone own ⊎ (m.issuer_domain_policy ≡ own) in
      let next = map_policy i mappings t m in
      mapped_as (IsDoneBy now rest) (IsDoneBy IsDone (m ∷ rest))
      (λ own d. elim d [
        | inl (inl before) ↦ inl before
        | inl (inr e) ↦ inr (m, in_first m rest, e)
        | inr one ↦ inr (one.0, in_rest m one.0 rest one.1, one.2)
      ])
      (λ own d. elim d [
        | inl before ↦ inl (inl before)
        | inr one ↦ elim (in_cases m one.0 rest one.1) [
          | inl first ↦ inl (inr (ap (λ (x : PolicyMapping). x.issuer_domain_policy) first ∙ one.2))
          | inr later ↦ inr (one.0, later, one.2)
        ]
      ])
      (fold (map_policy i mappings) next rest)
      (all_mapped any_only rest now next (one_mapped any_only IsDone m t s))
