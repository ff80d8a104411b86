-- The policies that the walk keeps are those that the definitions say, depth by depth.
use Rattle.std.proofs.Common.{◌≡◌, ℕ, zero, suc, ◌+◌, ◌<◌, ◌≤◌, ◌==◌, Bool, true, false, not, ◌||◌, ◌&&◌, List, arith, refl, ap, subst, ◌∙◌, sym, inl, inr, ⊎_elim, if◌then◌else◌}
use Rattle.std.specs.Bool.{Decides}
use Rattle.std.specs.List.{Contains, list_any}
use Rattle.std.specs.Str.{bytes_eq}
use Rattle.std.proofs.lemmas.Bool.{false≢true, cases_Bool}
use Rattle.std.proofs.lemmas.Bool.Decides.{Decides-at, Decides-eqb, not_from_Decides}
use Rattle.std.proofs.lemmas.Slice.Eq.{bytes_eq-Decides}
use Rattle.cert_policies.specs.PolicyExtensions.{PolicyMapping}
use Rattle.path_policies.specs.Query.{PolicyQuery, any_policy, certificate_numbered, count}
use Rattle.path_policies.specs.Counters.{IsMappingInhibited}
use Rattle.path_policies.specs.Policies.{Names, AllowsAny, Maps, IsMapped, Expects, IsExpectedOf, Follows, IsFollowing, IsParent, IsValidPolicy}
use Rattle.path_policies.specs.Acceptance.{MapsNoAny}
use Rattle.path_policies.specs.Steps.{names, maps, counts, mapped, inhibitions_behind, expected_behind, valid_behind, mapped_behind}
use Rattle.path_policies.proofs.Reaching.{or_cases, or_left, or_right}
use Rattle.path_policies.proofs.Walking.{expected_next}
use Rattle.path_policies.proofs.Flags.{any_is, is_any, names_decides, maps_is_mapped, mapping_of, inhibited_decides, allows_decides, last_decides}

pub and_parts : (a b : Bool) → (a && b) ≡ true → (a ≡ true) × (b ≡ true)
and_parts true b is = (refl, is)
and_parts false b is = absurd (false≢true is)

pub and_both : (a b : Bool) → a ≡ true → b ≡ true → (a && b) ≡ true
and_both a b one other = rw one other

pub not_true : (b : Bool) → not b ≡ true → b ≡ false
not_true true is = absurd (false≢true is)
not_true false is = refl

pub true_not : (b : Bool) → b ≡ false → not b ≡ true
true_not b is = rw is refl

pub plus_one : (i : ℕ) → i + 1 ≡ suc i
plus_one i = omega arith

-- what is known of the policies expected behind i certificates
pub record Knows (q : PolicyQuery) (i : ℕ) : Type 0 where
  pub expected : (policy : List ℕ) → Decides (expected_behind q i policy) (IsExpectedOf q i (IsValidPolicy q i) policy)
  pub any : Decides (expected_behind q i any_policy) (IsValidPolicy q i any_policy)

-- where anyPolicy is not mapped, it is expected exactly where it is valid
any_from : (q : PolicyQuery) (i : ℕ) → MapsNoAny q i → ((policy : List ℕ) → Decides (expected_behind q i policy) (IsExpectedOf q i (IsValidPolicy q i) policy))
    → Decides (expected_behind q i any_policy) (IsValidPolicy q i any_policy)
any_from q i no_any decides = (
  (λ is. let e = (decides any_policy).0 is in
      ⊎_elim (λ m. absurd ((no_any e.0 any_policy m).1 refl)) (λ same. subst (IsValidPolicy q i) (sym same.0) e.1) e.2),
  (λ valid. (decides any_policy).1 (any_policy, valid, inr (refl, (λ m. (no_any any_policy m.0 m.1).0 refl)))),
)

-- at the anchor
nothing_mapped : (q : PolicyQuery) (issuer subject : List ℕ) → Maps q 0 issuer subject → ⊥
nothing_mapped q issuer subject m = let below = m.1.1 in absurd (omega arith)

pub first_known : (q : PolicyQuery) → Knows q 0
first_known q = record { expected = expected; any = any_from q 0 (λ issuer subject m. absurd (nothing_mapped q issuer subject m)) expected } where
  expected : (policy : List ℕ) → Decides (expected_behind q 0 policy) (IsExpectedOf q 0 (IsValidPolicy q 0) policy)
  expected policy = (
    (λ is. (any_policy, refl, inr ((bytes_eq-Decides policy any_policy).0 is, (λ m. nothing_mapped q any_policy m.0 m.1)))),
    (λ e. (bytes_eq-Decides policy any_policy).1 (⊎_elim (λ m. absurd (nothing_mapped q e.0 policy m)) (λ same. same.0 ∙ e.1) e.2)),
  )

-- the policies of the next certificate
module _ (q : PolicyQuery) (i : ℕ) (below : i < count q) (known : Knows q i) where
  abbrev named : List ℕ → Bool
  named policy = names (certificate_numbered q (i + 1)) policy

  abbrev E : List ℕ → Bool
  E policy = expected_behind q i policy

  abbrev allows : Bool
  allows = (inhibitions_behind q i).allows_any

  named_is : (policy : List ℕ) → Decides (named policy) (Names q (i + 1) policy)
  named_is policy = names_decides q (i + 1) policy

  to_following : (policy : List ℕ) → valid_behind q i policy ≡ true → IsFollowing q i (IsValidPolicy q i) policy
  to_following policy is = ⊎_elim by_name by_any (or_cases (named policy && (E policy || E any_policy)) (allows && E policy) is) where
    when_expected : Names q (i + 1) policy → E policy ≡ true → IsFollowing q i (IsValidPolicy q i) policy
    when_expected n e = let x = (known.expected policy).0 e in (x.0, x.1, inl (n, x.2))

    by_name : (named policy && (E policy || E any_policy)) ≡ true → IsFollowing q i (IsValidPolicy q i) policy
    by_name both = let parts = and_parts (named policy) (E policy || E any_policy) both in
        let n = (named_is policy).0 parts.0 in
        elim (cases_Bool (E policy)) [
          | inl e ↦ when_expected n e
          | inr e ↦ (any_policy, known.any.0 (sym (ap (λ b. b || E any_policy) e) ∙ parts.1), inr (inl (n, (not_from_Decides (E policy) (known.expected policy) e, refl))))
        ]

    by_any : (allows && E policy) ≡ true → IsFollowing q i (IsValidPolicy q i) policy
    by_any both = let parts = and_parts allows (E policy) both in
        let x = (known.expected policy).0 parts.1 in
        elim (cases_Bool (named policy)) [
          | inl n ↦ (x.0, x.1, inl ((named_is policy).0 n, x.2))
          | inr n ↦ (x.0, x.1, inr (inr (not_from_Decides (named policy) (named_is policy) n, ((allows_decides q i below).0 parts.0, x.2))))
        ]

  from_following : (policy : List ℕ) → IsFollowing q i (IsValidPolicy q i) policy → valid_behind q i policy ≡ true
  from_following policy f = ⊎_elim one (λ others. ⊎_elim two three others) f.2 where
    one : Names q (i + 1) policy × Expects q i f.0 policy → valid_behind q i policy ≡ true
    one x = or_left (named policy && (E policy || E any_policy)) (allows && E policy)
        (and_both (named policy) (E policy || E any_policy) ((named_is policy).1 x.0) (or_left (E policy) (E any_policy) ((known.expected policy).1 (f.0, f.1, x.1))))

    two : Names q (i + 1) policy × (¬ IsExpectedOf q i (IsValidPolicy q i) policy × (f.0 ≡ any_policy)) → valid_behind q i policy ≡ true
    two x = or_left (named policy && (E policy || E any_policy)) (allows && E policy)
        (and_both (named policy) (E policy || E any_policy) ((named_is policy).1 x.0) (or_right (E policy) (E any_policy) (known.any.1 (subst (IsValidPolicy q i) x.1.1 f.1))))

    three : ¬ Names q (i + 1) policy × (AllowsAny q (i + 1) × Expects q i f.0 policy) → valid_behind q i policy ≡ true
    three x = or_right (named policy && (E policy || E any_policy)) (allows && E policy)
        (and_both allows (E policy) ((allows_decides q i below).1 x.1.0) ((known.expected policy).1 (f.0, f.1, x.1.1)))

  pub following_decides : (policy : List ℕ) → Decides (valid_behind q i policy) (IsFollowing q i (IsValidPolicy q i) policy)
  following_decides policy = (to_following policy, from_following policy)

  -- below it: the certificate is the last, or its mappings count
  abbrev V : List ℕ → Bool
  V policy = valid_behind q i policy

  abbrev maps_at : List ℕ → Bool
  maps_at policy = maps (certificate_numbered q (i + 1)) policy

  abbrev inhibited : Bool
  inhibited = (inhibitions_behind q i).mapping_inhibited

  abbrev mappings : List PolicyMapping
  mappings = (certificate_numbered q (i + 1)).extensions.mappings

  valid_next : (policy : List ℕ) → IsValidPolicy q (i + 1) policy → (parent : List ℕ) × IsValidPolicy q i parent × IsParent q i (IsValidPolicy q i) parent policy
  valid_next policy valid = subst (λ (n : ℕ). IsValidPolicy q n policy) (plus_one i) valid

  next_valid : (policy parent : List ℕ) → IsValidPolicy q i parent → IsParent q i (IsValidPolicy q i) parent policy → IsValidPolicy q (i + 1) policy
  next_valid policy parent valid is = subst (λ (n : ℕ). IsValidPolicy q n policy) (sym (plus_one i)) (parent, valid, is)

  -- what follows stays, unless it is mapped and mapping is inhibited
  kept : (policy : List ℕ) → IsFollowing q i (IsValidPolicy q i) policy → (IsMapped q (i + 1) policy → ¬ IsMappingInhibited q (i + 1)) → IsValidPolicy q (i + 1) policy
  kept policy f stays = next_valid policy f.0 f.1 (inl (f.2, stays))

  -- the last certificate's mappings do not count
  not_mapped_at_end : i + 1 ≡ count q → (policy : List ℕ) → IsMapped q (i + 1) policy → ⊥
  not_mapped_at_end last policy m = let below = m.1.0 in absurd (omega arith)

  at_end : i + 1 ≡ count q → (policy : List ℕ) → Decides (V policy) (IsExpectedOf q (i + 1) (IsValidPolicy q (i + 1)) policy)
  at_end last policy = (to, from) where
    to : V policy ≡ true → IsExpectedOf q (i + 1) (IsValidPolicy q (i + 1)) policy
    to is = (policy, kept policy (to_following policy is) (λ m. absurd (not_mapped_at_end last policy m)), inr (refl, not_mapped_at_end last policy))

    from : IsExpectedOf q (i + 1) (IsValidPolicy q (i + 1)) policy → V policy ≡ true
    from e = ⊎_elim (λ m. absurd (not_mapped_at_end last e.0 (policy, m)))
        (λ same. let v = valid_next e.0 e.1 in
        ap V same.0 ∙ ⊎_elim (λ f. from_following e.0 (v.0, v.1, f.0)) (λ m. absurd (not_mapped_at_end last e.0 m.0.0)) v.2)
        e.2

  -- the mappings of another do
  mapped_is : i + 1 < count q → (policy : List ℕ) → Decides (maps_at policy) (IsMapped q (i + 1) policy)
  mapped_is less policy = maps_is_mapped q (i + 1) policy less

  inhibited_is : Decides inhibited (IsMappingInhibited q (i + 1))
  inhibited_is = inhibited_decides q i below

  before_end : i + 1 < count q → (policy : List ℕ) → Decides (mapped (certificate_numbered q (i + 1)) inhibited V policy) (IsExpectedOf q (i + 1) (IsValidPolicy q (i + 1)) policy)
  before_end less policy = (to, from) where
    stays : Bool
    stays = V policy && not (maps_at policy)

    maps_to : PolicyMapping → Bool
    maps_to m = counts V m && bytes_eq m.subject_domain_policy policy

    by_mapping : Bool
    by_mapping = not inhibited && list_any maps_to mappings

    to_stay : stays ≡ true → IsExpectedOf q (i + 1) (IsValidPolicy q (i + 1)) policy
    to_stay is = let parts = and_parts (V policy) (not (maps_at policy)) is in
        let unmapped = not_from_Decides (maps_at policy) (mapped_is less policy) (not_true (maps_at policy) parts.1) in
        (policy, kept policy (to_following policy parts.0) (λ m. absurd (unmapped m)), inr (refl, unmapped))

    -- the issuer of a mapping that counts is valid
    issuer_valid : (m : PolicyMapping) → Contains mappings m → inhibited ≡ false → counts V m ≡ true → IsValidPolicy q (i + 1) m.issuer_domain_policy
    issuer_valid m among free is = elim (cases_Bool (V m.issuer_domain_policy)) [
      | inl valid ↦ kept m.issuer_domain_policy (to_following m.issuer_domain_policy valid) (λ _. not_from_Decides inhibited inhibited_is free)
      | inr missing ↦
          let any = to_following any_policy (sym (ap (λ b. b || V any_policy) missing) ∙ is) in
          let parent_any = known.any.0 ((known.expected any_policy).1 (any.0, any.1, any_expects any.0 any.2)) in
          next_valid m.issuer_domain_policy any_policy parent_any
          (inr (
            ((m.subject_domain_policy, (less, among)), not_from_Decides inhibited inhibited_is free),
            (((λ f. false≢true (sym missing ∙ from_following m.issuer_domain_policy f)), any), refl),
          ))
    ] where
      any_expects : (parent : List ℕ) → Follows q i (IsValidPolicy q i) parent any_policy → Expects q i parent any_policy
      any_expects parent f = ⊎_elim (λ x. absurd (x.0.1 refl)) (λ others. ⊎_elim (λ x. absurd (x.0.1 refl)) (λ x. x.1.1) others) f

    to_mapped : by_mapping ≡ true → IsExpectedOf q (i + 1) (IsValidPolicy q (i + 1)) policy
    to_mapped is = let parts = and_parts (not inhibited) (list_any maps_to mappings) is in
        let a = any_is maps_to mappings parts.1 in
        let both = and_parts (counts V a.0) (bytes_eq a.0.subject_domain_policy policy) a.2 in
        let subject = (bytes_eq-Decides a.0.subject_domain_policy policy).0 both.1 in (
          a.0.issuer_domain_policy,
          issuer_valid a.0 a.1 (not_true inhibited parts.0) both.0,
          inl (less, subst (λ s. Contains mappings (mapping_of a.0.issuer_domain_policy s)) subject a.1),
        )

    to : mapped (certificate_numbered q (i + 1)) inhibited V policy ≡ true → IsExpectedOf q (i + 1) (IsValidPolicy q (i + 1)) policy
    to is = ⊎_elim to_stay to_mapped (or_cases stays by_mapping is)

    -- a valid policy that is mapped counts, and mapping is not inhibited
    counts_valid : (issuer : List ℕ) → IsValidPolicy q (i + 1) issuer → IsMapped q (i + 1) issuer → ((V issuer || V any_policy) ≡ true) × (inhibited ≡ false)
    counts_valid issuer valid m = let v = valid_next issuer valid in
        ⊎_elim (λ f. (or_left (V issuer) (V any_policy) (from_following issuer (v.0, v.1, f.0)), free (f.1 m)))
        (λ f. (or_right (V issuer) (V any_policy) (from_following any_policy f.1.0.1), free f.0.1)) v.2
      where
        free : ¬ IsMappingInhibited q (i + 1) → inhibited ≡ false
        free not_so = elim (cases_Bool inhibited) [ inl is ↦ absurd (not_so (inhibited_is.0 is)) | inr is ↦ is ]

    from_mapped : (issuer : List ℕ) → IsValidPolicy q (i + 1) issuer → Maps q (i + 1) issuer policy → by_mapping ≡ true
    from_mapped issuer valid m = let c = counts_valid issuer valid (policy, m) in
        and_both (not inhibited) (list_any maps_to mappings) (true_not inhibited c.1)
        (is_any maps_to mappings (mapping_of issuer policy) m.1 (and_both (V issuer || V any_policy) (bytes_eq policy policy) c.0 ((bytes_eq-Decides policy policy).1 refl)))

    from_stay : (own : List ℕ) → IsValidPolicy q (i + 1) own → (policy ≡ own) → ¬ IsMapped q (i + 1) own → stays ≡ true
    from_stay own valid same unmapped = let v = valid_next own valid in
        ⊎_elim (λ f. and_both (V policy) (not (maps_at policy)) (ap V same ∙ from_following own (v.0, v.1, f.0)) (true_not (maps_at policy) (ap maps_at same ∙ none)))
        (λ f. absurd (unmapped f.0.0)) v.2
      where
        none : maps_at own ≡ false
        none = elim (cases_Bool (maps_at own)) [ inl is ↦ absurd (unmapped ((mapped_is less own).0 is)) | inr is ↦ is ]

    from : IsExpectedOf q (i + 1) (IsValidPolicy q (i + 1)) policy → mapped (certificate_numbered q (i + 1)) inhibited V policy ≡ true
    from e = ⊎_elim (λ m. or_right stays by_mapping (from_mapped e.0 e.1 m)) (λ same. or_left stays by_mapping (from_stay e.0 e.1 same.0 same.1)) e.2

  -- what is known behind it
  expected_more : (policy : List ℕ) → Decides (expected_behind q (i + 1) policy) (IsExpectedOf q (i + 1) (IsValidPolicy q (i + 1)) policy)
  expected_more policy = Decides-at (expected_behind q (i + 1) policy) (mapped_behind q i V policy) (expected_next q i policy) (by (i + 1 == count q) refl) where
    by : (last : Bool) → (i + 1 == count q) ≡ last
        → Decides (if last then V policy else mapped (certificate_numbered q (i + 1)) inhibited V policy) (IsExpectedOf q (i + 1) (IsValidPolicy q (i + 1)) policy)
    by true is = at_end ((Decides-eqb (i + 1) (count q)).0 is) policy
    by false is = before_end ((last_decides q i below).0 (true_not (i + 1 == count q) is)) policy

  pub known_more : MapsNoAny q (i + 1) → Knows q (i + 1)
  known_more no_any = record { expected = expected_more; any = any_from q (i + 1) no_any expected_more }

-- behind so many certificates that map no anyPolicy
abbrev pub MapNoAny : PolicyQuery → ℕ → Type 0
MapNoAny q i = (k : ℕ) → k < i → MapsNoAny q (k + 1)

pub known : (q : PolicyQuery) (i : ℕ) → i ≤ count q → MapNoAny q i → Knows q i
known q zero le none = first_known q
known q (suc i) le none =
    subst (Knows q) (plus_one i) (known_more q i (omega arith) (known q i (omega arith) (λ k less. none k (omega arith))) (none i (omega arith)))
