-- A path has one outcome.
use Rattle.std.proofs.Common.{◌≡◌, ℕ, ◌+◌, ◌<◌, ◌≤◌, arith, refl, subst, ◌∙◌, sym, inl, inr}
use Rattle.std.proofs.lemmas.Bool.{cases_order}
use Rattle.path.specs.declared.reason.Reason.{Reason}
use Rattle.path.specs.declared.reason.Outcome.TheVariants.{Good, Bad}
use Rattle.path.specs.Query.{Query, Accepts, count}
use Rattle.path.specs.Reason.{reason_rank}
use Rattle.path.specs.Conditions.{MeetsConditions}
use Rattle.path.specs.Validity.{IsServed, IsValidPath, IsLeastBroken, IsFirstBroken, IsNotServedFor, IsFirstFailure, OutcomeIsOne}
use Rattle.path.specs.State.{FailsFor}
use Rattle.path.proofs.Deciding.{same_rank}

module _ (accepts : Accepts) (q : Query) where
  one_reason : (j : ℕ) (r s : Reason) → IsLeastBroken accepts q j r → IsLeastBroken accepts q j s → r ≡ s
  one_reason j r s a b =
      elim (cases_order (reason_rank r) (reason_rank s)) [
        | inl same ↦ same_rank r s same
        | inr o ↦ elim o [
          | inl below ↦ absurd (a.broken (b.lesser r below))
          | inr above ↦ absurd (b.broken (a.lesser s above))
        ]
      ]

  same_place : (i j : ℕ) (r s : Reason) → IsFirstBroken accepts q i r → IsFirstBroken accepts q j s → i ≡ j
  same_place i j r s a b =
      elim (cases_order i j) [
        | inl same ↦ same
        | inr o ↦ elim o [
          | inl below ↦ absurd (a.least.broken (b.before i a.from below r))
          | inr above ↦ absurd (b.least.broken (a.before j b.from above s))
        ]
      ]

  bad : (i j : ℕ) (r s : Reason) → i ≡ j → r ≡ s → Bad i r ≡ Bad j s
  bad i j r s e f = cc

  both_broken : (i j : ℕ) (r s : Reason) → IsFirstBroken accepts q i r → IsFirstBroken accepts q j s → Bad i r ≡ Bad j s
  both_broken i j r s a b =
      let place = same_place i j r s a b in
      bad i j r s place (one_reason j r s (subst (λ n. IsLeastBroken accepts q n r) place a.least) b.least)

  not_both : (r : Reason) → IsNotServedFor q r → IsServed q → ⊥
  not_both r (inl none) is = let some = is.some in let e = none.0 in omega arith
  not_both r (inr many) is = let few = is.few in let e = many.0 in omega arith

  one_refusal : (r s : Reason) → IsNotServedFor q r → IsNotServedFor q s → r ≡ s
  one_refusal r s (inl a) (inl b) = a.1 ∙ sym b.1
  one_refusal r s (inl a) (inr b) = let e = a.0 in let f = b.0 in absurd (omega arith)
  one_refusal r s (inr a) (inl b) = let e = a.0 in let f = b.0 in absurd (omega arith)
  one_refusal r s (inr a) (inr b) = a.1 ∙ sym b.1

  one_failure : (i j : ℕ) (r s : Reason) → IsFirstFailure accepts q i r → IsFirstFailure accepts q j s → Bad i r ≡ Bad j s
  one_failure i j r s (inl a) (inl b) = bad i j r s (a.0 ∙ sym b.0) (one_refusal r s a.1 b.1)
  one_failure i j r s (inl a) (inr b) = absurd (not_both r a.1 b.served)
  one_failure i j r s (inr a) (inl b) = absurd (not_both s b.1 a.served)
  one_failure i j r s (inr a) (inr b) = both_broken i j r s a b

  no_failure : (j : ℕ) (r : Reason) → IsValidPath accepts q → IsFirstFailure accepts q j r → ⊥
  no_failure j r valid (inl a) = not_both r a.1 valid.served
  no_failure j r valid (inr a) = a.least.broken (valid.each j a.from a.to r)

-- a step that fails gives the first failure
pub failed : (accepts : Accepts) (q : Query) (done : ℕ) (reason : Reason) (place : ℕ) → FailsFor accepts q done reason → ((j : ℕ) → 1 ≤ j → j ≤ done → MeetsConditions accepts q j)
    → (count q ≡ 0 → place ≡ 0) → (128 < count q → place ≡ 0) → (1 ≤ count q → count q ≤ 128 → place ≡ done + 1) → IsFirstFailure accepts q place reason
failed accepts q done reason place (inl refused) passed none many served =
    inl (elim refused [ inl e ↦ none e.0 | inr m ↦ many m.0 ], refused)
failed accepts q done reason place (inr broken) passed none many served =
    let is = broken.0 in
    let at = served is.some is.few in
    let below = broken.1 in
    inr (record {
      served = is;
      from = omega arith;
      to = omega arith;
      least = subst (λ j. IsLeastBroken accepts q j reason) (sym at) broken.2;
      before = λ i l h. passed i l (omega arith);
    })

pub outcome_is_one : OutcomeIsOne
outcome_is_one accepts q Good Good a b = refl
outcome_is_one accepts q Good (Bad j s) a b = absurd (no_failure accepts q j s a b)
outcome_is_one accepts q (Bad i r) Good a b = absurd (no_failure accepts q i r b a)
outcome_is_one accepts q (Bad i r) (Bad j s) a b = one_failure accepts q i j r s a b
