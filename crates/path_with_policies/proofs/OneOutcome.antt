-- A path has one outcome.
use Rattle.std.proofs.Common.{◌≡◌, ℕ, ◌+◌, ◌<◌, ◌≤◌, arith, refl, sym, subst, ◌∙◌, inl, inr}
use Rattle.std.proofs.lemmas.Bool.{cases_order}
use Rattle.path.specs.declared.reason.Reason.{Reason}
use Rattle.path.specs.declared.reason.Reason.TheVariants.{NoValidPolicy, AnyPolicyMapped, NoUserPolicy}
use Rattle.path.specs.Query.{Accepts, count}
use Rattle.path.specs.Reason.{reason_rank}
use Rattle.path.specs.Validity.{IsServed, IsNotServedFor}
use Rattle.path_policies.specs.declared.reason.PolicyOutcome.TheVariants as policies
use Rattle.path_policies.specs.declared.reason.PolicySets.{PolicySets}
use Rattle.path_policies.specs.Outcome.{IsGood, PolicyOutcomeIsOne}
use Rattle.path_with_policies.specs.declared.outcome.OutcomeWithPolicies.TheVariants.{Good, Bad}
use Rattle.path_with_policies.specs.WithPolicies.{QueryWithPolicies, HasPoliciesOfEach, IsValidWithPolicies, IsFirstBrokenWithPolicies, IsFirstFailureWithPolicies, OutcomeWithPoliciesIsOne}
use Rattle.path_with_policies.proofs.Ranks.{same_rank}

module _ (accepts : Accepts) (q : QueryWithPolicies) where
  good_policies : (sets : PolicySets) → HasPoliciesOfEach q → IsValidWithPolicies accepts q sets → IsGood q.policies sets
  good_policies sets counts valid = record {
    each = λ j l h. record { required = valid.each j l (omega arith) NoValidPolicy; mapped = valid.each j l (omega arith) AnyPolicyMapped };
    user = let some = valid.served.some in valid.each (count q.path) some (omega arith) NoUserPolicy refl;
    authority_constrained = valid.authority_constrained;
    user_constrained = valid.user_constrained;
    authority_order = valid.authority_order;
    user_order = valid.user_order;
  }

  same_place : (i j : ℕ) (r s : Reason) → IsFirstBrokenWithPolicies accepts q i r → IsFirstBrokenWithPolicies accepts q j s → i ≡ j
  same_place i j r s a b =
      elim (cases_order i j) [
        | inl same ↦ same
        | inr o ↦ elim o [
          | inl below ↦ absurd (a.broken (b.before i a.from below r))
          | inr above ↦ absurd (b.broken (a.before j b.from above s))
        ]
      ]

  same_reason : (j : ℕ) (r s : Reason) → IsFirstBrokenWithPolicies accepts q j r → IsFirstBrokenWithPolicies accepts q j s → r ≡ s
  same_reason j r s a b =
      elim (cases_order (reason_rank r) (reason_rank s)) [
        | inl same ↦ same_rank r s same
        | inr o ↦ elim o [
          | inl below ↦ absurd (a.broken (b.lesser r below))
          | inr above ↦ absurd (b.broken (a.lesser s above))
        ]
      ]

  not_both : (r : Reason) → IsNotServedFor q.path r → IsServed q.path → ⊥
  not_both r (inl none) is = let some = is.some in let e = none.0 in omega arith
  not_both r (inr many) is = let few = is.few in let e = many.0 in omega arith

  one_refusal : (r s : Reason) → IsNotServedFor q.path r → IsNotServedFor q.path s → r ≡ s
  one_refusal r s (inl a) (inl b) = a.1 ∙ sym b.1
  one_refusal r s (inl a) (inr b) = let e = a.0 in let f = b.0 in absurd (omega arith)
  one_refusal r s (inr a) (inl b) = let e = a.0 in let f = b.0 in absurd (omega arith)
  one_refusal r s (inr a) (inr b) = a.1 ∙ sym b.1

  one_failure : (i j : ℕ) (r s : Reason) → IsFirstFailureWithPolicies accepts q i r → IsFirstFailureWithPolicies accepts q j s → (i ≡ j) × (r ≡ s)
  one_failure i j r s (inl a) (inl b) = (a.0 ∙ sym b.0, one_refusal r s a.1 b.1)
  one_failure i j r s (inl a) (inr b) = absurd (not_both r a.1 b.served)
  one_failure i j r s (inr a) (inl b) = absurd (not_both s b.1 a.served)
  one_failure i j r s (inr a) (inr b) =
      let place = same_place i j r s a b in
      (place, same_reason j r s (subst (λ n. IsFirstBrokenWithPolicies accepts q n r) place a) b)

  no_failure : (j : ℕ) (r : Reason) (sets : PolicySets) → IsValidWithPolicies accepts q sets → IsFirstFailureWithPolicies accepts q j r → ⊥
  no_failure j r sets valid (inl a) = not_both r a.1 valid.served
  no_failure j r sets valid (inr a) = a.broken (valid.each j a.from a.to r)

pub outcome_is_one : PolicyOutcomeIsOne → OutcomeWithPoliciesIsOne
outcome_is_one law accepts q (Good one) (Good other) each a b =
    law q.policies (policies.Good one) (policies.Good other) (good_policies accepts q one each a) (good_policies accepts q other each b)
outcome_is_one law accepts q (Good sets) (Bad j r) each a b = no_failure accepts q j r sets a b
outcome_is_one law accepts q (Bad j r) (Good sets) each a b = no_failure accepts q j r sets b a
outcome_is_one law accepts q (Bad i r) (Bad j s) each a b = one_failure accepts q i j r s a b
