-- The sets at the end: the policies right below anyPolicy that go on, and what the user takes of them.
use Rattle.std.proofs.Common.{◌≡◌, ◌≢◌, ℕ, zero, suc, ◌+◌, ◌-◌, ◌<◌, ◌≤◌, ◌==◌, Bool, true, false, not, ◌&&◌, List, arith, refl, subst, sym, inl, inr, ⊎_elim}
use Rattle.std.specs.Bool.{Decides}
use Rattle.std.proofs.lemmas.Bool.{false≢true, cases_Bool, cases_lt}
use Rattle.std.proofs.lemmas.Bool.Decides.{not_from_Decides}
use Rattle.path_policies.specs.Query.{PolicyQuery, any_policy, certificate_numbered, count}
use Rattle.path_policies.specs.Counters.{IsMappingInhibited}
use Rattle.path_policies.specs.Policies.{Maps, IsMapped, Expects, Follows, IsFollowing, IsValidPolicy, IsBelow, Lasts}
use Rattle.path_policies.specs.Acceptance.{IsFirstNamed}
use Rattle.path_policies.specs.Steps.{names, maps, is_first, is_first_mapped, goes_on_above, lasts_above, inhibitions_behind, expected_behind, valid_behind, first_behind, named_above}
use Rattle.path_policies.proofs.Reaching.{or_cases, or_left, or_right}
use Rattle.path_policies.proofs.Flags.{names_decides, maps_is_mapped, inhibited_decides, last_decides}
use Rattle.path_policies.proofs.Validity.{Knows, MapNoAny, known, following_decides, and_parts, and_both, not_true, true_not}
use Rattle.path_policies.proofs.Chains.{next_valid, goes_decides, goes_kept}

false_from : {P : Type 0} (b : Bool) → Decides b P → ¬ P → b ≡ false
false_from b is not_so = elim (cases_Bool b) [ inl so ↦ absurd (not_so (is.0 so)) | inr so ↦ so ]

module _ (q : PolicyQuery) (none : MapNoAny q (count q)) where
  module _ (k : ℕ) (below : k < count q) where
    knows : Knows q k
    knows = known q k (omega arith) (λ j less. none j (omega arith))

    abbrev E : List ℕ → Bool
    E policy = expected_behind q k policy

    abbrev V : List ℕ → Bool
    V policy = valid_behind q k policy

    abbrev named : List ℕ → Bool
    named policy = names (certificate_numbered q (k + 1)) policy

    abbrev mapped : List ℕ → Bool
    mapped policy = maps (certificate_numbered q (k + 1)) policy

    abbrev inhibited : Bool
    inhibited = (inhibitions_behind q k).mapping_inhibited

    abbrev other : Bool
    other = not (k + 1 == count q)

    V_is : (policy : List ℕ) → Decides (V policy) (IsFollowing q k (IsValidPolicy q k) policy)
    V_is policy = following_decides q k below knows policy

    -- anyPolicy expects none but itself
    any_expects : (policy : List ℕ) → policy ≢ any_policy → IsValidPolicy q k any_policy → Expects q k any_policy policy → ⊥
    any_expects policy own valid e = ⊎_elim (λ m. mapped_any k m) (λ same. own same.0) e where
      mapped_any : (j : ℕ) → Maps q j any_policy policy → ⊥
      mapped_any zero m = let under = m.1.1 in absurd (omega arith)
      mapped_any (suc j) m = let one : suc j ≡ j + 1 = omega arith in
          let at = subst (λ (n : ℕ). Maps q n any_policy policy) one m in
          (none j (let less = m.0 in omega arith) any_policy policy at).0 refl

    -- what comes right below anyPolicy, and is kept
    to_below : (policy : List ℕ) → first_behind q k policy ≡ true → (IsMapped q (k + 1) policy → ¬ IsMappingInhibited q (k + 1)) → (policy ≢ any_policy) × IsBelow q k any_policy policy
    to_below policy is kept = ⊎_elim by_name by_mapping
        (or_cases (is_first (certificate_numbered q (k + 1)) E policy) (other && is_first_mapped (certificate_numbered q (k + 1)) inhibited V policy) is)
      where
        by_name : is_first (certificate_numbered q (k + 1)) E policy ≡ true → (policy ≢ any_policy) × IsBelow q k any_policy policy
        by_name both =
            let parts = and_parts (named policy) (not (E policy) && E any_policy) both in
            let others = and_parts (not (E policy)) (E any_policy) parts.1 in
            let n = (names_decides q (k + 1) policy).0 parts.0 in
            (n.1, (knows.any.0 others.1, inl (inr (inl (n, (not_from_Decides (E policy) (knows.expected policy) (not_true (E policy) others.0), refl))), kept)))

        by_mapping : (other && is_first_mapped (certificate_numbered q (k + 1)) inhibited V policy) ≡ true → (policy ≢ any_policy) × IsBelow q k any_policy policy
        by_mapping both =
            let one = and_parts other (is_first_mapped (certificate_numbered q (k + 1)) inhibited V policy) both in
            let two = and_parts (not inhibited) (mapped policy && (not (V policy) && V any_policy)) one.1 in
            let three = and_parts (mapped policy) (not (V policy) && V any_policy) two.1 in
            let four = and_parts (not (V policy)) (V any_policy) three.1 in
            let less = (last_decides q k below).0 one.0 in
            let m = (maps_is_mapped q (k + 1) policy less).0 three.0 in
            let any = (V_is any_policy).0 four.1 in (
              (none k below policy m.0 m.1).0,
              (
                any_valid any,
                inr ((m, not_from_Decides inhibited (inhibited_decides q k below) (not_true inhibited two.0)), ((not_from_Decides (V policy) (V_is policy) (not_true (V policy) four.0), any), refl)),
              ),
            )
          where
            any_valid : IsFollowing q k (IsValidPolicy q k) any_policy → IsValidPolicy q k any_policy
            any_valid any = knows.any.0 ((knows.expected any_policy).1 (
              any.0,
              any.1,
              ⊎_elim (λ x. absurd (x.0.1 refl)) (λ others. ⊎_elim (λ x. absurd (x.0.1 refl)) (λ x. x.1.1) others) any.2,
            ))

    from_below : (policy : List ℕ) → policy ≢ any_policy → IsBelow q k any_policy policy → first_behind q k policy ≡ true
    from_below policy own is = ⊎_elim (λ f. by_follows f.0) by_mapping is.1 where
      by_follows : Follows q k (IsValidPolicy q k) any_policy policy → first_behind q k policy ≡ true
      by_follows f = ⊎_elim (λ x. absurd (any_expects policy own is.0 x.1))
          (λ others. ⊎_elim
          (λ x. or_left (is_first (certificate_numbered q (k + 1)) E policy) (other && is_first_mapped (certificate_numbered q (k + 1)) inhibited V policy)
          (and_both (named policy) (not (E policy) && E any_policy) ((names_decides q (k + 1) policy).1 x.0)
          (and_both (not (E policy)) (E any_policy) (true_not (E policy) (false_from (E policy) (knows.expected policy) x.1.0)) (knows.any.1 is.0))))
          (λ x. absurd (any_expects policy own is.0 x.1.1)) others) f

      by_mapping : (IsMapped q (k + 1) policy × ¬ IsMappingInhibited q (k + 1))
          × ((¬ IsFollowing q k (IsValidPolicy q k) policy × IsFollowing q k (IsValidPolicy q k) any_policy) × (any_policy ≡ any_policy)) → first_behind q k policy ≡ true
      by_mapping x = or_right (is_first (certificate_numbered q (k + 1)) E policy) (other && is_first_mapped (certificate_numbered q (k + 1)) inhibited V policy)
          (and_both other (is_first_mapped (certificate_numbered q (k + 1)) inhibited V policy) ((last_decides q k below).1 x.0.0.1.0)
          (and_both (not inhibited) (mapped policy && (not (V policy) && V any_policy)) (true_not inhibited (false_from inhibited (inhibited_decides q k below) x.0.1))
          (and_both (mapped policy) (not (V policy) && V any_policy) ((maps_is_mapped q (k + 1) policy x.0.0.1.0).1 x.0.0)
          (and_both (not (V policy)) (V any_policy) (true_not (V policy) (false_from (V policy) (V_is policy) x.1.0.0)) ((V_is any_policy).1 x.1.0.1)))))

  -- the first named at one of so many certificates from the end
  to_named : (more : ℕ) → more ≤ count q → (policy : List ℕ) → named_above q more policy ≡ true → IsFirstNamed q policy
  to_named zero le policy is = absurd (false≢true is)
  to_named (suc more) le policy is = ⊎_elim here (to_named more (omega arith) policy)
      (or_cases (first_behind q (count q - (more + 1)) policy && goes_on_above q more (lasts_above q more) policy) (named_above q more policy) is)
    where
      k : ℕ
      k = count q - (more + 1)

      at : count q - (more + 1) + 1 + more ≡ count q
      at = omega arith

      here : (first_behind q (count q - (more + 1)) policy && goes_on_above q more (lasts_above q more) policy) ≡ true → IsFirstNamed q policy
      here both =
          let parts = and_parts (first_behind q (count q - (more + 1)) policy) (goes_on_above q more (lasts_above q more) policy) both in
          let under : count q - (more + 1) < count q = omega arith in
          let is_below = to_below (count q - (more + 1)) under policy parts.0 (goes_kept q none more (count q - (more + 1)) policy at parts.1) in
          let lasts = (goes_decides q none more (count q - (more + 1)) at policy is_below.0 (next_valid q (count q - (more + 1)) policy any_policy is_below.1)).0 parts.1 in
          let same : count q - (count q - (more + 1) + 1) ≡ more = omega arith in
          record {
            depth = count q - (more + 1);
            above_end = under;
            named = is_below.0;
            below = is_below.1;
            lasts = subst (λ (n : ℕ). Lasts q n (count q - (more + 1) + 1) policy) (sym same) lasts;
          }

  from_named : (more : ℕ) → more ≤ count q → (policy : List ℕ) → (n : IsFirstNamed q policy) → count q - more ≤ n.depth → named_above q more policy ≡ true
  from_named zero le policy n deep = let above = n.above_end in absurd (omega arith)
  from_named (suc more) le policy n deep = ⊎_elim
      (λ less. or_right (first_behind q (count q - (more + 1)) policy && goes_on_above q more (lasts_above q more) policy) (named_above q more policy)
      (from_named more (omega arith) policy n (omega arith)))
      here (cases_lt (count q - (more + 1)) n.depth) where
        here : n.depth ≤ count q - (more + 1) → named_above q (suc more) policy ≡ true
        here le' =
            let is : n.depth ≡ count q - (more + 1) = omega arith in
            let under : count q - (more + 1) < count q = omega arith in
            let below = subst (λ (k : ℕ). IsBelow q k any_policy policy) is n.below in
            let same : count q - (n.depth + 1) ≡ more = (let above = n.above_end in omega arith) in
            let one : n.depth + 1 ≡ count q - (more + 1) + 1 = omega arith in
            let lasts = subst (λ (k : ℕ). Lasts q more k policy) one (subst (λ (m : ℕ). Lasts q m (n.depth + 1) policy) same n.lasts) in
            or_left (first_behind q (count q - (more + 1)) policy && goes_on_above q more (lasts_above q more) policy) (named_above q more policy)
            (and_both (first_behind q (count q - (more + 1)) policy) (goes_on_above q more (lasts_above q more) policy)
            (from_below (count q - (more + 1)) under policy n.named below)
            ((goes_decides q none more (count q - (more + 1)) (omega arith) policy n.named (next_valid q (count q - (more + 1)) policy any_policy below)).1 lasts))

  pub named_decides : (policy : List ℕ) → Decides (named_above q (count q) policy) (IsFirstNamed q policy)
  named_decides policy = (to_named (count q) (omega arith) policy, (λ n. from_named (count q) (omega arith) policy n (omega arith)))
