-- From the end upward: the policies that the walk lets go on are those with one of the last certificate below them.
use Rattle.std.proofs.Common.{◌≡◌, ◌≢◌, ℕ, zero, suc, ◌+◌, ◌-◌, ◌<◌, ◌==◌, Bool, true, false, not, ◌||◌, ◌&&◌, List, arith, refl, ap, subst, ◌∙◌, sym, inl, inr, ◌⊎◌, ⊎_elim, if◌then◌else◌}
use Rattle.std.specs.Bool.{Decides}
use Rattle.std.specs.List.{Contains, list_any}
use Rattle.std.specs.Str.{bytes_eq}
use Rattle.std.proofs.lemmas.Bool.{cases_Bool}
use Rattle.std.proofs.lemmas.Bool.Decides.{Decides-eqb, not_from_Decides}
use Rattle.std.proofs.lemmas.Slice.Eq.{bytes_eq-Decides}
use Rattle.cert_policies.specs.PolicyExtensions.{PolicyMapping}
use Rattle.path_policies.specs.Query.{PolicyQuery, any_policy, certificate_numbered, count}
use Rattle.path_policies.specs.Counters.{IsMappingInhibited}
use Rattle.path_policies.specs.Policies.{AllowsAny, Maps, IsMapped, Expects, Follows, IsParent, IsValidPolicy, IsBelow, Lasts}
use Rattle.path_policies.specs.Steps.{names, maps, goes_on, goes_on_above, lasts_above, inhibitions_behind}
use Rattle.path_policies.proofs.Reaching.{or_left, or_right}
use Rattle.path_policies.proofs.Flags.{any_is, is_any, names_decides, maps_is_mapped, mapping_of, inhibited_decides, allows_decides}
use Rattle.path_policies.proofs.Validity.{MapNoAny, and_parts, and_both, not_true, true_not, plus_one}

pub valid_next : (q : PolicyQuery) (i : ℕ) (policy : List ℕ) → IsValidPolicy q (i + 1) policy → (parent : List ℕ) × IsValidPolicy q i parent × IsParent q i (IsValidPolicy q i) parent policy
valid_next q i policy valid = subst (λ (n : ℕ). IsValidPolicy q n policy) (plus_one i) valid

pub next_valid : (q : PolicyQuery) (i : ℕ) (policy parent : List ℕ) → IsBelow q i parent policy → IsValidPolicy q (i + 1) policy
next_valid q i policy parent is = subst (λ (n : ℕ). IsValidPolicy q n policy) (sym (plus_one i)) (parent, is.0, is.1)

-- a valid policy that is mapped stands where mapping is not inhibited
valid_mapped : (q : PolicyQuery) (i : ℕ) (policy : List ℕ) → IsValidPolicy q (i + 1) policy → IsMapped q (i + 1) policy → ¬ IsMappingInhibited q (i + 1)
valid_mapped q i policy valid m = let v = valid_next q i policy valid in ⊎_elim (λ f. f.1 m) (λ f. f.0.1) v.2

not_first : (more : ℕ) → (suc more == 0) ≡ false
not_first more = elim (cases_Bool (suc more == 0)) [
  | inl is ↦ let e = (Decides-eqb (suc more) 0).0 is in absurd (omega arith)
  | inr is ↦ is
]

module _ (q : PolicyQuery) where
  -- at certificate k + 1, which has others below it
  mappings_next : (more k : ℕ) (lasts : List ℕ → Bool) (policy : List ℕ) → k + 1 + suc more ≡ count q
      → goes_on_above q (suc more) lasts policy ≡ goes_on (certificate_numbered q (k + 1)) (inhibitions_behind q k).mapping_inhibited lasts policy
  mappings_next more k lasts policy at =
      let here : count q - suc more ≡ k + 1 = omega arith in
      let behind : count q - (suc more + 1) ≡ k = omega arith in
      rw (not_first more, here, behind) refl

  lasts_next : (more k : ℕ) (policy : List ℕ) → k + 1 + suc more ≡ count q
      → lasts_above q (suc more) policy ≡ ((names (certificate_numbered q (k + 1 + 1)) policy || (inhibitions_behind q (k + 1)).allows_any) && goes_on_above q more (lasts_above q more) policy)
  lasts_next more k policy at =
      let here : count q - more ≡ k + 1 + 1 = omega arith in
      let behind : count q - (more + 1) ≡ k + 1 = omega arith in
      rw (here, behind) refl

  module _ (none : MapNoAny q (count q)) where
    -- what a policy other than anyPolicy expects is none, either
    expects_named : (k : ℕ) (policy expected : List ℕ) → k < count q → policy ≢ any_policy → Expects q (k + 1) policy expected → expected ≢ any_policy
    expects_named k policy expected below named e is =
        ⊎_elim (λ m. (none k below policy expected m).1 is) (λ same. named (sym same.0 ∙ is)) e

    -- a policy that goes on is not mapped where mapping is inhibited
    pub goes_kept : (more k : ℕ) (policy : List ℕ) → k + 1 + more ≡ count q → goes_on_above q more (lasts_above q more) policy ≡ true
        → IsMapped q (k + 1) policy → ¬ IsMappingInhibited q (k + 1)
    goes_kept zero k policy at is m = let below = m.1.0 in absurd (omega arith)
    goes_kept (suc more) k policy at is m =
        let mapped = (maps_is_mapped q (k + 1) policy m.1.0).1 m in
        let goes = ap (λ b. if b then not inhibited && list_any to_lasting (certificate_numbered q (k + 1)).extensions.mappings else lasts_above q (suc more) policy) (sym mapped)
        ∙ sym (mappings_next more k (lasts_above q (suc more)) policy at) ∙ is in
        let free = and_parts (not inhibited) (list_any to_lasting (certificate_numbered q (k + 1)).extensions.mappings) goes in
        not_from_Decides inhibited (inhibited_decides q k (omega arith)) (not_true inhibited free.0)
      where
        inhibited : Bool
        inhibited = (inhibitions_behind q k).mapping_inhibited

        to_lasting : PolicyMapping → Bool
        to_lasting m = lasts_above q (suc more) m.subject_domain_policy && bytes_eq m.issuer_domain_policy policy

    -- one certificate: it expects a policy, the next has that one, and it goes on
    module _ (more k : ℕ) (at : k + 1 + suc more ≡ count q)
        (below_decides : (policy : List ℕ) → policy ≢ any_policy → IsValidPolicy q (k + 1 + 1) policy → Decides (goes_on_above q more (lasts_above q more) policy) (Lasts q more (k + 1 + 1) policy)) where
      abbrev L : List ℕ → Bool
      L policy = lasts_above q (suc more) policy

      abbrev named : List ℕ → Bool
      named policy = names (certificate_numbered q (k + 1 + 1)) policy

      abbrev allows : Bool
      allows = (inhibitions_behind q (k + 1)).allows_any

      abbrev goes : List ℕ → Bool
      goes policy = goes_on_above q more (lasts_above q more) policy

      here : k < count q
      here = omega arith

      next : k + 1 < count q
      next = omega arith

      at_next : k + 1 + 1 + more ≡ count q
      at_next = omega arith

      allows_is : Decides allows (AllowsAny q (k + 1 + 1))
      allows_is = allows_decides q (k + 1) next

      step_to : (policy expected : List ℕ) → policy ≢ any_policy → IsValidPolicy q (k + 1) policy → Expects q (k + 1) policy expected → L expected ≡ true
          → IsBelow q (k + 1) policy expected × Lasts q more (k + 1 + 1) expected
      step_to policy expected own valid e is =
          let parts = and_parts (named expected || allows) (goes expected) (sym (lasts_next more k expected at) ∙ is) in
          let follows : Follows q (k + 1) (IsValidPolicy q (k + 1)) policy expected = by_name parts.0 in
          let below : IsBelow q (k + 1) policy expected = (valid, inl (follows, goes_kept more (k + 1) expected at_next parts.1)) in
          (below, (below_decides expected (expects_named k policy expected here own e) (next_valid q (k + 1) expected policy below)).0 parts.1)
        where
          by_name : (named expected || allows) ≡ true → Follows q (k + 1) (IsValidPolicy q (k + 1)) policy expected
          by_name either = elim (cases_Bool (named expected)) [
            | inl n ↦ inl ((names_decides q (k + 1 + 1) expected).0 n, e)
            | inr n ↦ inr (inr (not_from_Decides (named expected) (names_decides q (k + 1 + 1) expected) n, (allows_is.0 (sym (ap (λ b. b || allows) n) ∙ either), e)))
          ]

      step_from : (policy expected : List ℕ) → policy ≢ any_policy → IsBelow q (k + 1) policy expected → Lasts q more (k + 1 + 1) expected
          → Expects q (k + 1) policy expected × (L expected ≡ true)
      step_from policy expected own below lasts = ⊎_elim (λ f. by_follows f.0) (λ f. absurd (own f.1.1)) below.1 where
        go : Expects q (k + 1) policy expected → (named expected || allows) ≡ true → Expects q (k + 1) policy expected × (L expected ≡ true)
        go e either = (
          e,
          lasts_next more k expected at
              ∙ and_both (named expected || allows) (goes expected) either ((below_decides expected (expects_named k policy expected here own e) (next_valid q (k + 1) expected policy below)).1 lasts),
        )

        by_follows : Follows q (k + 1) (IsValidPolicy q (k + 1)) policy expected → Expects q (k + 1) policy expected × (L expected ≡ true)
        by_follows f = ⊎_elim (λ x. go x.1 (or_left (named expected) allows ((names_decides q (k + 1 + 1) expected).1 x.0)))
            (λ others. ⊎_elim (λ x. absurd (own x.1.1)) (λ x. go x.1.1 (or_right (named expected) allows (allows_is.1 x.1.0))) others) f

      to : (policy : List ℕ) → policy ≢ any_policy → IsValidPolicy q (k + 1) policy → goes_on_above q (suc more) L policy ≡ true → Lasts q (suc more) (k + 1) policy
      to policy own valid is = by (cases_Bool (maps (certificate_numbered q (k + 1)) policy)) where
        inhibited : Bool
        inhibited = (inhibitions_behind q k).mapping_inhibited

        to_lasting : PolicyMapping → Bool
        to_lasting m = L m.subject_domain_policy && bytes_eq m.issuer_domain_policy policy

        given : goes_on (certificate_numbered q (k + 1)) inhibited L policy ≡ true
        given = sym (mappings_next more k L policy at) ∙ is

        by : (maps (certificate_numbered q (k + 1)) policy ≡ true) ⊎ (maps (certificate_numbered q (k + 1)) policy ≡ false) → Lasts q (suc more) (k + 1) policy
        by (inl m) =
            let parts = and_parts (not inhibited) (list_any to_lasting (certificate_numbered q (k + 1)).extensions.mappings)
            (ap (λ b. if b then not inhibited && list_any to_lasting (certificate_numbered q (k + 1)).extensions.mappings else L policy) (sym m) ∙ given) in
            let a = any_is to_lasting (certificate_numbered q (k + 1)).extensions.mappings parts.1 in
            let both = and_parts (L a.0.subject_domain_policy) (bytes_eq a.0.issuer_domain_policy policy) a.2 in
            let issuer = (bytes_eq-Decides a.0.issuer_domain_policy policy).0 both.1 in
            let step = step_to policy a.0.subject_domain_policy own valid
            (inl (next, subst (λ i. Contains (certificate_numbered q (k + 1)).extensions.mappings (mapping_of i a.0.subject_domain_policy)) issuer a.1)) both.0 in
            (a.0.subject_domain_policy, step.0, step.1)
        by (inr unmapped) =
            let step = step_to policy policy own valid (inr (refl, not_from_Decides (maps (certificate_numbered q (k + 1)) policy) (maps_is_mapped q (k + 1) policy next) unmapped))
            (ap (λ b. if b then not inhibited && list_any to_lasting (certificate_numbered q (k + 1)).extensions.mappings else L policy) (sym unmapped) ∙ given) in
            (policy, step.0, step.1)

      from : (policy : List ℕ) → policy ≢ any_policy → IsValidPolicy q (k + 1) policy → Lasts q (suc more) (k + 1) policy → goes_on_above q (suc more) L policy ≡ true
      from policy own valid lasts =
          let step = step_from policy lasts.0 own lasts.1 lasts.2 in
          mappings_next more k L policy at ∙ ⊎_elim (λ m. by_mapping m step.1) (λ same. by_itself same.0 same.1 step.1) step.0
        where
          inhibited : Bool
          inhibited = (inhibitions_behind q k).mapping_inhibited

          to_lasting : PolicyMapping → Bool
          to_lasting m = L m.subject_domain_policy && bytes_eq m.issuer_domain_policy policy

          by_mapping : Maps q (k + 1) policy lasts.0 → L lasts.0 ≡ true → goes_on (certificate_numbered q (k + 1)) inhibited L policy ≡ true
          by_mapping m is =
              let mapped = (maps_is_mapped q (k + 1) policy next).1 (lasts.0, m) in
              let free : inhibited ≡ false = elim (cases_Bool inhibited) [
                | inl so ↦ absurd (valid_mapped q k policy valid (lasts.0, m) ((inhibited_decides q k here).0 so))
                | inr so ↦ so
              ] in
              ap (λ b. if b then not inhibited && list_any to_lasting (certificate_numbered q (k + 1)).extensions.mappings else L policy) mapped
              ∙ and_both (not inhibited) (list_any to_lasting (certificate_numbered q (k + 1)).extensions.mappings) (true_not inhibited free)
              (is_any to_lasting (certificate_numbered q (k + 1)).extensions.mappings (mapping_of policy lasts.0) m.1 (and_both (L lasts.0) (bytes_eq policy policy) is ((bytes_eq-Decides policy policy).1 refl)))

          by_itself : lasts.0 ≡ policy → ¬ IsMapped q (k + 1) policy → L lasts.0 ≡ true → goes_on (certificate_numbered q (k + 1)) inhibited L policy ≡ true
          by_itself same unmapped is =
              let free : maps (certificate_numbered q (k + 1)) policy ≡ false = elim (cases_Bool (maps (certificate_numbered q (k + 1)) policy)) [
                | inl so ↦ absurd (unmapped ((maps_is_mapped q (k + 1) policy next).0 so))
                | inr so ↦ so
              ] in
              ap (λ b. if b then not inhibited && list_any to_lasting (certificate_numbered q (k + 1)).extensions.mappings else L policy) free ∙ ap L (sym same) ∙ is

    pub goes_decides : (more k : ℕ) → k + 1 + more ≡ count q → (policy : List ℕ) → policy ≢ any_policy → IsValidPolicy q (k + 1) policy
        → Decides (goes_on_above q more (lasts_above q more) policy) (Lasts q more (k + 1) policy)
    goes_decides zero k at policy own valid = ((λ is. omega arith), (λ is. refl))
    goes_decides (suc more) k at policy own valid =
        let below : (policy : List ℕ) → policy ≢ any_policy → IsValidPolicy q (k + 1 + 1) policy → Decides (goes_on_above q more (lasts_above q more) policy) (Lasts q more (k + 1 + 1) policy) =
        (λ policy own valid. goes_decides more (k + 1) (omega arith) policy own valid) in
        (to more k at below policy own valid, from more k at below policy own valid)
