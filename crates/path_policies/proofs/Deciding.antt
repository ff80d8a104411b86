-- A path has one outcome.
use Rattle.std.proofs.Common.{◌≡◌, ℕ, ◌≤◌, ◌||◌, List, [], ◌∷◌, map, refl, sym, subst, ◌∙◌, ⊎_elim}
use Rattle.std.specs.List.{list_any}
use Rattle.std.specs.Str.{bytes_eq}
use Rattle.std.specs.Ordering.{nat_cmp, eq_by_cmp}
use Rattle.std.specs.Cmp.Lexicographic.{slice_cmp, texts_ties}
use Rattle.std.proofs.lemmas.Bool.{cases_order}
use Rattle.std.proofs.lemmas.Bool.Decides.{same_from_decides, Decides-like}
use Rattle.std.proofs.lemmas.Cmp.{nat_list_cmp_total}
use Rattle.std.proofs.lemmas.Map.Lookups.{btree_set_from_contains, exact_bytes}
use Rattle.asn.specs.Oid.{oid_contents}
use Rattle.asn.specs.declared.oid.Oid.{Oid}
use Rattle.path_policies.specs.declared.reason.PolicyReason.TheVariants as R
use Rattle.path_policies.specs.declared.reason.PolicyOutcome.{PolicyOutcome}
use Rattle.path_policies.specs.declared.reason.PolicyOutcome.TheVariants.{Good, Bad}
use Rattle.path_policies.specs.Query.{PolicyQuery}
use Rattle.path_policies.specs.Lists.{AreAscending}
use Rattle.path_policies.specs.Acceptance.{HasRequiredPolicy, MapsNoAny}
use Rattle.path_policies.specs.Outcome.{IsAcceptable, ArePolicies, IsFirstUnacceptable, IsPolicyOutcome, AreSameOutcome}
use Rattle.path_policies.proofs.Same.{is_same_back}
use Rattle.path_policies.proofs.Flags.{listed_decides}

-- a list has a key by the order exactly if it has it by its octets
by_octets : (keys : List (List ℕ)) (policy : List ℕ) → list_any (eq_by_cmp (slice_cmp nat_cmp) policy) keys ≡ list_any (λ key. bytes_eq key policy) keys
by_octets [] policy = refl
by_octets (key ∷ keys) policy = (λ i. (sym (texts_ties policy key) ∙ is_same_back policy key) i || by_octets keys policy i)

-- two lists in order that have the same policies are the same
same_lists : (one other : List Oid) (IsOne : List ℕ → Type 0) → AreAscending one → AreAscending other → ArePolicies one IsOne → ArePolicies other IsOne
    → map oid_contents one ≡ map oid_contents other
same_lists one other IsOne one_ordered other_ordered one_has other_has =
    btree_set_from_contains nat_list_cmp_total (record { keys = map oid_contents one }) (record { keys = map oid_contents other }) one_ordered other_ordered same exact_bytes
  where
    same : (policy : List ℕ) → list_any (eq_by_cmp (slice_cmp nat_cmp) policy) (map oid_contents one) ≡ list_any (eq_by_cmp (slice_cmp nat_cmp) policy) (map oid_contents other)
    same policy =
        by_octets (map oid_contents one) policy
        ∙ same_from_decides (list_any (λ key. bytes_eq key policy) (map oid_contents one)) (list_any (λ key. bytes_eq key policy) (map oid_contents other))
        (Decides-like (list_any (λ key. bytes_eq key policy) (map oid_contents one)) (one_has policy).0 (one_has policy).1 (listed_decides (map oid_contents one) policy))
        (Decides-like (list_any (λ key. bytes_eq key policy) (map oid_contents other)) (other_has policy).0 (other_has policy).1 (listed_decides (map oid_contents other) policy))
        ∙ sym (by_octets (map oid_contents other) policy)

-- two certificates that are the first that is not acceptable are the same
same_first : (q : PolicyQuery) (i j : ℕ) → IsFirstUnacceptable q i → IsFirstUnacceptable q j → ¬ IsAcceptable q i → ¬ IsAcceptable q j → i ≡ j
same_first q i j one other bad_one bad_other = ⊎_elim (λ same. same)
    (λ differ. ⊎_elim (λ less. absurd (bad_one (other.before i one.from less))) (λ more. absurd (bad_other (one.before j other.from more))) differ)
    (cases_order i j)

lacks : (q : PolicyQuery) (j : ℕ) → ¬ HasRequiredPolicy q j → ¬ IsAcceptable q j
lacks q j none is = none is.required

maps : (q : PolicyQuery) (j : ℕ) → ¬ MapsNoAny q j → ¬ IsAcceptable q j
maps q j some is = some is.mapped

pub outcome_is_one : (q : PolicyQuery) (one other : PolicyOutcome) → IsPolicyOutcome q one → IsPolicyOutcome q other → AreSameOutcome one other
outcome_is_one q (Good one) (Good other) is also = (
  same_lists one.authority_constrained.items other.authority_constrained.items _ is.authority_order also.authority_order is.authority_constrained also.authority_constrained,
  same_lists one.user_constrained.items other.user_constrained.items _ is.user_order also.user_order is.user_constrained also.user_constrained,
)
outcome_is_one q (Good one) (Bad j R.NoValidPolicy) is also = also.1 (is.each j also.0.from also.0.to).required
outcome_is_one q (Good one) (Bad j R.AnyPolicyMapped) is also = also.1.1 (is.each j also.0.from also.0.to).mapped
outcome_is_one q (Good one) (Bad j R.NoUserPolicy) is also = also.1.1 is.user
outcome_is_one q (Bad i R.NoValidPolicy) (Good other) is also = is.1 (also.each i is.0.from is.0.to).required
outcome_is_one q (Bad i R.AnyPolicyMapped) (Good other) is also = is.1.1 (also.each i is.0.from is.0.to).mapped
outcome_is_one q (Bad i R.NoUserPolicy) (Good other) is also = is.1.1 also.user
outcome_is_one q (Bad i R.NoValidPolicy) (Bad j R.NoValidPolicy) is also = (same_first q i j is.0 also.0 (lacks q i is.1) (lacks q j also.1), refl)
outcome_is_one q (Bad i R.NoValidPolicy) (Bad j R.AnyPolicyMapped) is also =
    let same = same_first q i j is.0 also.0 (lacks q i is.1) (maps q j also.1.1) in
    absurd (is.1 (subst (HasRequiredPolicy q) (sym same) also.1.0))
outcome_is_one q (Bad i R.NoValidPolicy) (Bad j R.NoUserPolicy) is also = absurd (is.1 (also.1.0 i is.0.from (subst (λ (n : ℕ). i ≤ n) (sym also.0) is.0.to)).required)
outcome_is_one q (Bad i R.AnyPolicyMapped) (Bad j R.NoValidPolicy) is also =
    let same = same_first q i j is.0 also.0 (maps q i is.1.1) (lacks q j also.1) in
    absurd (also.1 (subst (HasRequiredPolicy q) same is.1.0))
outcome_is_one q (Bad i R.AnyPolicyMapped) (Bad j R.AnyPolicyMapped) is also = (same_first q i j is.0 also.0 (maps q i is.1.1) (maps q j also.1.1), refl)
outcome_is_one q (Bad i R.AnyPolicyMapped) (Bad j R.NoUserPolicy) is also = absurd (is.1.1 (also.1.0 i is.0.from (subst (λ (n : ℕ). i ≤ n) (sym also.0) is.0.to)).mapped)
outcome_is_one q (Bad i R.NoUserPolicy) (Bad j R.NoValidPolicy) is also = absurd (also.1 (is.1.0 j also.0.from (subst (λ (n : ℕ). j ≤ n) (sym is.0) also.0.to)).required)
outcome_is_one q (Bad i R.NoUserPolicy) (Bad j R.AnyPolicyMapped) is also = absurd (also.1.1 (is.1.0 j also.0.from (subst (λ (n : ℕ). j ≤ n) (sym is.0) also.0.to)).mapped)
outcome_is_one q (Bad i R.NoUserPolicy) (Bad j R.NoUserPolicy) is also = (is.0 ∙ sym also.0, refl)
