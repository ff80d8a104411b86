-- One more certificate of the walk.
use Rattle.std.proofs.Common.{◌≡◌, ◌<◌, ◌≤◌, ◌+◌, ◌==◌, ℕ, Bool, List, [], ◌∷◌, ◌++◌, length, get_or, refl, ap, sym, subst, ◌∙◌, ⊎_elim, arith, Bor, false, ◌||◌}
use Rattle.std.proofs.lemmas.List.{length-append, get_or_push, get_or_append_left}
use Rattle.std.proofs.lemmas.Bool.{cases_lt}
use Rattle.std.specs.Str.{bytes_eq}
use Rattle.std.specs.Global.{Vec}
use native.Mathlib.Numerals.{unary_clauses}
use Rattle.path_policies.specs.declared.policy_set.PolicySet.{PolicySet}
use Rattle.path_policies.specs.declared.reason.PolicyReason.{PolicyReason}
use Rattle.path_policies.specs.declared.walk.Step.{Step}
use Rattle.path_policies.specs.declared.walk.Step.TheVariants as step
use Rattle.path_policies.specs.declared.reason.PolicyReason.TheVariants as R
use Rattle.path_policies.specs.Query.{PolicyCertificate, PolicyQuery, any_policy, count, certificate_numbered}
use Rattle.path_policies.specs.Lists.{is_listed}
use Rattle.path_policies.specs.Sets.{has}
use Rattle.path_policies.specs.Steps.{Inhibitions, inhibitions_behind, expected_behind, first_behind, followed, mapped_behind, followed_behind}
use Rattle.path_policies.proofs.Same.{or_false, is_same_back}
use Rattle.path_policies.specs.Walk.{Passes, PassesBehind, HasWalked, AreFirsts, HasPolicy, LacksPolicy, expected_below, first_below, TakesStep, FailsFirst, FailsBehind}

pub expected_next : (q : PolicyQuery) (i : ℕ) (policy : List ℕ) → expected_behind q (i + 1) policy ≡ mapped_behind q i (followed_behind q i (expected_behind q i)) policy
expected_next q i policy = simp unary_clauses refl

firsts_more : (q : PolicyQuery) (i : ℕ) (firsts : List (Vec (Bor (List ℕ)))) (first : Vec (Bor (List ℕ))) → AreFirsts q i firsts
    → ((policy : List ℕ) → is_listed first.items policy ≡ first_behind q i policy) → AreFirsts q (i + 1) (firsts ++ first ∷ [])
firsts_more q i firsts first before last = record {
  count_is = length-append firsts (first ∷ []) ∙ ap (λ n. n + 1) before.count_is;
  each = λ k d policy below. ⊎_elim (old k d policy) (new k d policy below) (cases_lt k i);
} where
  old : (k : ℕ) (d : Vec (Bor (List ℕ))) (policy : List ℕ) → k < i → is_listed (get_or (firsts ++ first ∷ []) k d).items policy ≡ first_behind q k policy
  old k d policy less = ap (λ found. is_listed found.items policy) (get_or_append_left firsts (first ∷ []) d k (rw before.count_is less)) ∙ before.each k d policy less

  new : (k : ℕ) (d : Vec (Bor (List ℕ))) (policy : List ℕ) → k < i + 1 → i ≤ k → is_listed (get_or (firsts ++ first ∷ []) k d).items policy ≡ first_behind q k policy
  new k d policy below more =
      let is : i ≡ k = omega arith in
      ap (λ found. is_listed found.items policy) (get_or_push firsts first d k (before.count_is ∙ is)) ∙ last policy ∙ ap (λ at. first_behind q at policy) is

-- a certificate passes, behind i others
pub passed : (q : PolicyQuery) (i : ℕ) (firsts : List (Vec (Bor (List ℕ)))) (first : Vec (Bor (List ℕ))) (old new : PolicySet) → HasWalked q i firsts old
    → Passes (certificate_numbered q (i + 1)) (inhibitions_behind q i) (i + 1 == count q) (has old) (has new) first.items
    → HasWalked q (i + 1) (firsts ++ first ∷ []) new
passed q i firsts first old new walked passes = record {
  pass = λ k below. ⊎_elim (walked.pass k) (λ more. let is : i ≡ k = omega arith in subst (PassesBehind q) is here) (cases_lt k i);
  firsts_are = firsts_more q i firsts first walked.firsts_are
      (λ policy. passes.first_is policy ∙ ap (λ expected. first_below c inhibitions last expected policy) same);
  expected_is = λ policy.
      passes.expected_is policy ∙ ap (λ expected. expected_below c inhibitions last expected policy) same ∙ sym (expected_next q i policy);
} where
  c : PolicyCertificate
  c = certificate_numbered q (i + 1)

  inhibitions : Inhibitions
  inhibitions = inhibitions_behind q i

  last : Bool
  last = i + 1 == count q

  same : has old ≡ expected_behind q i
  same = λ k policy. walked.expected_is policy k

  here : PassesBehind q i
  here = record {
    has_policy = subst (λ expected. HasPolicy inhibitions.policy_required (followed c inhibitions.allows_any expected)) same passes.has_policy;
    maps_none = passes.maps_none;
  }

-- a certificate fails, behind i others that pass
pub failed : (q : PolicyQuery) (i : ℕ) (firsts : List (Vec (Bor (List ℕ)))) (old new : PolicySet) (reason : PolicyReason) → HasWalked q i firsts old → i < count q
    → TakesStep (certificate_numbered q (i + 1)) (inhibitions_behind q i) (i + 1 == count q) (has old) (has new) (step.Failed reason)
    → FailsFirst q (i + 1) reason
failed q i firsts old new reason walked below fails = record { i = i; number_is = refl; below = below; pass = walked.pass; fails = by reason fails } where
  same : has old ≡ expected_behind q i
  same = λ k policy. walked.expected_is policy k

  by : (reason : PolicyReason) → TakesStep (certificate_numbered q (i + 1)) (inhibitions_behind q i) (i + 1 == count q) (has old) (has new) (step.Failed reason) → FailsBehind q i reason
  by R.NoValidPolicy lacks =
      subst (λ expected. LacksPolicy (inhibitions_behind q i).policy_required (followed (certificate_numbered q (i + 1)) (inhibitions_behind q i).allows_any expected)) same lacks
  by R.AnyPolicyMapped maps = (
    subst (λ expected. HasPolicy (inhibitions_behind q i).policy_required (followed (certificate_numbered q (i + 1)) (inhibitions_behind q i).allows_any expected)) same maps.0,
    maps.1,
    maps.2,
  )
  by R.NoUserPolicy none = none

-- before the first certificate anyPolicy is expected
pub started : (q : PolicyQuery) (firsts : List (Vec (Bor (List ℕ)))) (empty policies : PolicySet) → firsts ≡ [] → ((policy : List ℕ) → has empty policy ≡ false)
    → ((policy : List ℕ) → has policies policy ≡ (bytes_eq any_policy policy || has empty policy)) → HasWalked q 0 firsts policies
started q firsts empty policies none is_empty only = record {
  pass = λ k below. absurd (omega arith);
  firsts_are = record { count_is = ap length none; each = λ k d policy below. absurd (omega arith) };
  expected_is = λ policy.
      only policy ∙ (λ i. bytes_eq any_policy policy || is_empty policy i) ∙ or_false (bytes_eq any_policy policy) ∙ is_same_back any_policy policy;
}

-- what is said of a certificate and of its inhibitions, and of the step as it was matched
pub stepped : (q : PolicyQuery) (i : ℕ) (c : PolicyCertificate) (inhibitions : Inhibitions) (n : ℕ) (old new : List ℕ → Bool) (one other : Step)
    → certificate_numbered q (i + 1) ≡ c → inhibitions ≡ inhibitions_behind q i → count q ≡ n → one ≡ other
    → TakesStep c inhibitions (i + 1 == n) old new one → TakesStep (certificate_numbered q (i + 1)) (inhibitions_behind q i) (i + 1 == count q) old new other
stepped q i c inhibitions n old new one other c_is inhibitions_are n_is is takes =
    let h1 = subst (λ s. TakesStep c inhibitions (i + 1 == n) old new s) is takes in
    let h2 = subst (λ these. TakesStep c these (i + 1 == n) old new other) inhibitions_are h1 in
    let h3 = subst (λ n. TakesStep c (inhibitions_behind q i) (i + 1 == n) old new other) (sym n_is) h2 in
    subst (λ c. TakesStep c (inhibitions_behind q i) (i + 1 == count q) old new other) (sym c_is) h3
