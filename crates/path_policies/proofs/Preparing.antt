-- What the mappings of a certificate leave of the tree (6.1.4 (b)): the traces.
use Rattle.std.proofs.Common.{◌≡◌, ◌↔◌, ◌<◌, ◌+◌, ℕ, zero, suc, List, [], ◌∷◌, cond, filter, fold, length, Option, Some, None, arith, refl, ap, sym, subst, inl, inr, add-one}
use Rattle.std.specs.Prelude.{nat_lt, option_map, option_and_then}
use Rattle.std.specs.List.{Contains}
use Rattle.std.specs.Str.{bytes_eq}
use Rattle.std.proofs.lemmas.Bool.{cases_Bool, ltb-true, ltb-false}
use Rattle.cert_policies.specs.PolicyExtensions.{PolicyMapping}
use Rattle.path_policies.specs.Query.{PolicyQuery, any_policy, count, certificate_numbered}
use Rattle.path_policies.specs.Counters.{IsMappingInhibited}
use Rattle.path_policies.specs.Policies.{Maps, IsMapped, Expects, Follows, IsParent, IsValidPolicy, IsBelow}
use Rattle.path_policies.specs.Nodes.{PolicyTree, valid_policy}
use Rattle.path_policies.specs.Tree.{policy_mapping, subjects_of, map_policy, delete_policy, map_policies, tree_prepared}
use Rattle.path_policies.specs.TreeLaws.{IsTrace, MapNoAny}
use Rattle.path_policies.proofs.TreeCounting.{policy_mapping_is_exact}
use Rattle.path_policies.proofs.TreeMembers.{in_none, in_map, from_map, in_filter, from_filter, same, equal}
use Rattle.path_policies.proofs.Known.{Stands, StandsOrNull, HaveChildren, stands_as, null_as, is_null, is_there}
use Rattle.path_policies.proofs.Traces.{IsReached, valid_at, following_trace, reached_at, at_reached}
use Rattle.path_policies.proofs.Deleting.{IsSpared, all_deleted}
use Rattle.path_policies.proofs.Mapping.{IsThere, Wants, Mapped, IsDoneBy, all_mapped}

module _ (q : PolicyQuery) (i : ℕ) where
  abbrev Valid : List ℕ → Type 0
  Valid = IsValidPolicy q i

  -- anyPolicy stands below itself alone
  unmapped_any : MapNoAny q i → (parent : List ℕ) → ¬ Maps q i parent any_policy
  unmapped_any = go i where
    go : (k : ℕ) → MapNoAny q k → (parent : List ℕ) → ¬ Maps q k parent any_policy
    go zero plain parent h = in_none (record { issuer_domain_policy = parent; subject_domain_policy = any_policy }) h.1
    go (suc k) plain parent h = (plain (suc k) (omega arith) (omega arith) parent any_policy h).1 refl

  pub any_only : MapNoAny q i → (parent : List ℕ) → Follows q i Valid parent any_policy → parent ≡ any_policy
  any_only plain parent (inl first) = absurd (first.0.1 refl)
  any_only plain parent (inr (inl any)) = absurd (any.0.1 refl)
  any_only plain parent (inr (inr other)) = elim other.1.1 [
    | inl maps ↦ absurd (unmapped_any plain parent maps)
    | inr e ↦ sym e.0
  ]

  -- a trace has a policy that is below the last of another trace
  trace_more : (above : List (List ℕ)) (parent policy : List ℕ) → length above ≡ i → IsTrace q (parent ∷ above)
      → IsParent q i Valid parent policy → IsTrace q (policy ∷ parent ∷ above)
  trace_more above parent policy d up is = (up, subst (λ n. IsBelow q n parent policy) (sym d) (valid_at q i above parent d up, is))

  trace_less : (above : List (List ℕ)) (parent policy : List ℕ) → length above ≡ i → IsTrace q (policy ∷ parent ∷ above)
      → IsTrace q (parent ∷ above) × IsParent q i Valid parent policy
  trace_less above parent policy d h = (h.0, (subst (λ n. IsBelow q n parent policy) d h.1).1)

  abbrev mappings : List PolicyMapping
  mappings = (certificate_numbered q (i + 1)).extensions.mappings

  abbrev IsIssuer : List ℕ → Type 0
  IsIssuer own = (m : PolicyMapping) × Contains mappings m × (m.issuer_domain_policy ≡ own)

  abbrev Itself : List ℕ → List ℕ → Type 0
  Itself own policy = policy ≡ own

  -- nothing is mapped

  module _ (unmapped : (own : List ℕ) → ¬ IsMapped q (i + 1) own) where
    unmapped_expects : (above : List (List ℕ)) (own policy : List ℕ) → length above ≡ suc i → IsTrace q (own ∷ above)
        → Itself own policy ↔ Expects q (i + 1) own policy
    unmapped_expects above own policy d trace = (
      λ h. inr (h, unmapped own),
      λ h. elim h [ inl maps ↦ absurd (unmapped own (policy, maps)) | inr itself ↦ itself.0 ],
    )

    unmapped_right : (above : List (List ℕ)) (policy : List ℕ) → length above ≡ suc i → IsReached q (policy ∷ above) ↔ IsTrace q (policy ∷ above)
    unmapped_right [] policy d = absurd (omega arith)
    unmapped_right (parent ∷ above) policy d =
        let at : length above ≡ i = omega arith in (
          λ h. let r = reached_at q i above parent policy at h in
              trace_more above parent policy at r.0 (inl (r.1, λ mapped. absurd (unmapped policy mapped))),
          λ h. let r = trace_less above parent policy at h in
              at_reached q i above parent policy at r.0
              (elim r.1 [ inl follows ↦ follows.0 | inr made ↦ absurd (unmapped policy made.0.0) ]),
        )

    nothing_mapped : (tree : Option PolicyTree) → StandsOrNull (suc i) (IsReached q) Itself tree
        → StandsOrNull (suc i) (IsTrace q) (Expects q (i + 1)) tree
    nothing_mapped tree s =
        null_as (suc i) (IsReached q) (IsTrace q) Itself (Expects q (i + 1)) unmapped_right unmapped_expects tree s

  module _ (inside : i + 1 < count q) where
    issuer_mapped : (own : List ℕ) → IsIssuer own → IsMapped q (i + 1) own
    issuer_mapped own h = (
      h.0.subject_domain_policy,
      (
        inside,
        subst (λ p. Contains mappings (record { issuer_domain_policy = p; subject_domain_policy = h.0.subject_domain_policy })) h.2 h.1,
      ),
    )

    mapped_issuer : (own : List ℕ) → IsMapped q (i + 1) own → IsIssuer own
    mapped_issuer own h = (record { issuer_domain_policy = own; subject_domain_policy = h.0 }, h.1.1, refl)

    subject_mapped : (own policy : List ℕ) → Contains (subjects_of mappings own) policy → Maps q (i + 1) own policy
    subject_mapped own policy h =
        let m = from_map (λ (x : PolicyMapping). x.subject_domain_policy) (filter (λ x. bytes_eq own x.issuer_domain_policy) mappings) policy h in
        let kept = from_filter (λ x. bytes_eq own x.issuer_domain_policy) mappings m.0 m.1 in
        let own_is : m.0.issuer_domain_policy ≡ own = sym (same own m.0.issuer_domain_policy kept.1) in (
          inside,
          subst (λ p. Contains mappings (record { issuer_domain_policy = own; subject_domain_policy = p })) m.2
              (subst (λ p. Contains mappings (record { issuer_domain_policy = p; subject_domain_policy = m.0.subject_domain_policy })) own_is kept.0),
        )

    mapped_subject : (own policy : List ℕ) → Maps q (i + 1) own policy → Contains (subjects_of mappings own) policy
    mapped_subject own policy h =
        let m : PolicyMapping = record { issuer_domain_policy = own; subject_domain_policy = policy } in
        in_map (λ (x : PolicyMapping). x.subject_domain_policy) (filter (λ x. bytes_eq own x.issuer_domain_policy) mappings) m
        (in_filter (λ x. bytes_eq own x.issuer_domain_policy) mappings m h.1 (equal own own refl))

    -- mapping is inhibited

    module _ (inhibited : IsMappingInhibited q (i + 1)) where
      spared_right : (above : List (List ℕ)) (policy : List ℕ) → length above ≡ suc i
          → IsSpared i Itself (IsReached q) mappings (policy ∷ above) ↔ IsTrace q (policy ∷ above)
      spared_right [] policy d = absurd (omega arith)
      spared_right (parent ∷ above) policy d =
          let at : length above ≡ i = omega arith in (
            λ h. let r = reached_at q i above parent policy at h.0 in
                trace_more above parent policy at r.0
                (inl (r.1, λ mapped. let m = mapped_issuer policy mapped in absurd (h.1 m.0 m.1 m.2))),
            λ h. let r = trace_less above parent policy at h in
                elim r.1 [
                  | inl follows ↦ (at_reached q i above parent policy at r.0 follows.0, λ m is e. follows.1 (issuer_mapped policy (m, is, e)) inhibited)
                  | inr made ↦ absurd (made.0.1 inhibited)
                ],
          )

      spared_expects : (above : List (List ℕ)) (own policy : List ℕ) → length above ≡ suc i → IsTrace q (own ∷ above)
          → Itself own policy ↔ Expects q (i + 1) own policy
      spared_expects [] own policy d trace = absurd (omega arith)
      spared_expects (parent ∷ above) own policy d trace =
          let at : length above ≡ i = omega arith in
          let unmapped : ¬ IsMapped q (i + 1) own = λ mapped. elim (trace_less above parent own at trace).1 [
            | inl follows ↦ follows.1 mapped inhibited
            | inr made ↦ made.0.1 inhibited
          ] in (
            λ h. inr (h, unmapped),
            λ h. elim h [ inl maps ↦ absurd (unmapped (policy, maps)) | inr itself ↦ itself.0 ],
          )

      mapped_deleted : (tree : Option PolicyTree) → StandsOrNull (suc i) (IsReached q) Itself tree
          → StandsOrNull (suc i) (IsTrace q) (Expects q (i + 1))
          (fold (λ left mapping. option_and_then (λ t. delete_policy i t mapping) left) tree mappings)
      mapped_deleted tree s =
          null_as (suc i) (IsSpared i Itself (IsReached q) mappings) (IsTrace q) Itself (Expects q (i + 1)) spared_right spared_expects
          (fold (λ left mapping. option_and_then (λ t. delete_policy i t mapping) left) tree mappings)
          (all_deleted i Itself mappings (IsReached q) tree s)

    -- mapping is not inhibited

    module _ (plain : MapNoAny q i) (allowed : ¬ IsMappingInhibited q (i + 1)) where
      abbrev Never : List ℕ → Type 0
      Never own = ⊥

      abbrev IsDone : List ℕ → Type 0
      IsDone = IsDoneBy q i mappings Never mappings

      done_mapped : (own : List ℕ) → IsDone own → IsMapped q (i + 1) own
      done_mapped own h = elim h [ inl never ↦ absurd never | inr issuer ↦ issuer_mapped own issuer ]

      mapped_done : (own : List ℕ) → IsMapped q (i + 1) own → IsDone own
      mapped_done own h = inr (mapped_issuer own h)

      there_right : (above : List (List ℕ)) (policy : List ℕ) → length above ≡ suc i
          → IsThere q i mappings IsDone (policy ∷ above) ↔ IsTrace q (policy ∷ above)
      there_right [] policy d = absurd (omega arith)
      there_right (parent ∷ above) policy d =
          let at : length above ≡ i = omega arith in (
            λ h. elim h [
              | inl reached ↦
                  let r = reached_at q i above parent policy at reached in
                  trace_more above parent policy at r.0 (inl (r.1, λ mapped. allowed))
              | inr made ↦ trace_more above parent policy at made.4
                  (inr ((done_mapped policy made.0, allowed), ((made.1, made.2), made.3)))
            ],
            λ h. let r = trace_less above parent policy at h in
                elim r.1 [
                  | inl follows ↦ inl (at_reached q i above parent policy at r.0 follows.0)
                  | inr made ↦ inr (mapped_done policy made.0.0, made.1.0.0, made.1.0.1, made.1.1, r.0)
                ],
          )

      wants_expects : (above : List (List ℕ)) (own policy : List ℕ) → length above ≡ suc i → IsTrace q (own ∷ above)
          → Wants q i mappings IsDone own policy ↔ Expects q (i + 1) own policy
      wants_expects above own policy d trace = (
        λ h. elim h [
          | inl wanted ↦ inl (subject_mapped own policy wanted.1)
          | inr itself ↦ inr (itself.1, λ mapped. itself.0 (mapped_done own mapped))
        ],
        λ h. elim h [
          | inl maps ↦ inl (mapped_done own (policy, maps), mapped_subject own policy maps)
          | inr itself ↦ inr (λ done. itself.1 (done_mapped own done), itself.0)
        ],
      )

      -- before the first mapping
      first_mapped : (t : PolicyTree) → Stands (suc i) (IsReached q) Itself t → HaveChildren i (Some t) → Mapped q i mappings Never t
      first_mapped t s have = record {
        stands = stands_as (suc i) (IsReached q) (IsThere q i mappings Never) Itself (Wants q i mappings Never) only wanted t s;
        parents = λ above u d is.
            let child = have t refl above u d is in
            (s.sound (valid_policy u ∷ above) child.0 (ap suc d) (u, is, refl, child.1)).0;
      } where
        only : (above : List (List ℕ)) (policy : List ℕ) → length above ≡ suc i → IsReached q (policy ∷ above) ↔ IsThere q i mappings Never (policy ∷ above)
        only [] policy d = absurd (omega arith)
        only (parent ∷ above) policy d = (λ h. inl h, λ h. elim h [ inl reached ↦ reached | inr made ↦ absurd made.0 ])

        wanted : (above : List (List ℕ)) (own policy : List ℕ) → length above ≡ suc i → IsThere q i mappings Never (own ∷ above)
            → Itself own policy ↔ Wants q i mappings Never own policy
        wanted above own policy d there = (
          λ h. inr (λ never. never, h),
          λ h. elim h [ inl never ↦ absurd never.0 | inr itself ↦ itself.1 ],
        )

      all_done : (tree : Option PolicyTree) → StandsOrNull (suc i) (IsReached q) Itself tree → HaveChildren i tree
          → StandsOrNull (suc i) (IsTrace q) (Expects q (i + 1)) (option_map (λ t. fold (map_policy i mappings) t mappings) tree)
      all_done None s have = is_null (suc i) (IsTrace q) (Expects q (i + 1)) (λ above policy d h. never above policy d ((there_right above policy d).1 h)) where
        never : (above : List (List ℕ)) (policy : List ℕ) → length above ≡ suc i → IsThere q i mappings IsDone (policy ∷ above) → ⊥
        never above policy d (inl reached) = s.none refl above policy d reached
        never [] policy d (inr made) = made
        never (parent ∷ above) policy d (inr made) =
            let f = following_trace q i any_policy made.2 in
            s.none refl (f.0 ∷ f.1) any_policy (ap suc f.2) (at_reached q i f.1 f.0 any_policy f.2 f.3 f.4)
      all_done (Some t) s have =
          let final = fold (map_policy i mappings) t mappings in
          let mapped = all_mapped q i mappings (any_only plain) mappings Never t (first_mapped t (s.stands t refl) have) in
          let there = s.some t refl in
          let kept = mapped.stands.complete there.0 (valid_policy there.1) there.2 (inl ((s.stands t refl).sound there.0 there.1 there.2 there.3)) in
          is_there (suc i) (IsTrace q) (Expects q (i + 1)) final
          (stands_as (suc i) (IsThere q i mappings IsDone) (IsTrace q) (Wants q i mappings IsDone) (Expects q (i + 1)) there_right wants_expects final
          mapped.stands)
          (there.0, kept.0, there.2, kept.1)

  pub prepared : i < count q → MapNoAny q i → (tree : Option PolicyTree) → StandsOrNull (suc i) (IsReached q) Itself tree → HaveChildren i tree
      → StandsOrNull (suc i) (IsTrace q) (Expects q (suc i)) (tree_prepared q i tree)
  prepared below plain tree s have =
      let counter = policy_mapping q (i + 1) in
      let exact = policy_mapping_is_exact q (i + 1) (omega arith) (omega arith) in
      let mapped = option_map (λ t. fold (map_policy i mappings) t mappings) tree in
      let deleted = fold (λ left mapping. option_and_then (λ t. delete_policy i t mapping) left) tree mappings in
      let IsKnown : Option PolicyTree → Type 0 = StandsOrNull (suc i) (IsTrace q) (Expects q (i + 1)) in
      subst (λ n. StandsOrNull (suc i) (IsTrace q) (Expects q n) (tree_prepared q i tree)) (add-one i)
      (elim (cases_Bool (nat_lt (i + 1) (count q))) [
        | inl inner ↦
            let inside = ltb-true (i + 1) (count q) inner in
            subst (λ b. IsKnown (cond b (map_policies q i mappings tree) tree)) (sym inner)
            (elim (cases_Bool (nat_lt 0 counter)) [
              | inl positive ↦ subst (λ b. IsKnown (cond b mapped deleted)) (sym positive)
                  (all_done inside plain (λ inhibited. let e = exact.1 inhibited in let p = ltb-true 0 counter positive in omega arith) tree s have)
              | inr is_zero ↦ subst (λ b. IsKnown (cond b mapped deleted)) (sym is_zero)
                  (mapped_deleted inside (exact.0 (let z = ltb-false 0 counter is_zero in omega arith)) tree s)
            ])
        | inr last ↦ subst (λ b. IsKnown (cond b (map_policies q i mappings tree) tree)) (sym last)
            (nothing_mapped (λ own h. let a = ltb-false (i + 1) (count q) last in let b = h.1.0 in omega arith) tree s)
      ])
