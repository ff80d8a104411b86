-- The first octet that passes a test.
use Rattle.std.proofs.Common.{◌≡◌, ◌<◌, ◌≤◌, ℕ, List, length, get_or, Bool, true, false, not, Some, None, sym, ◌∙◌, arith, inl, inr, nat_lt}
use Rattle.std.specs.List.{All, AllPass, position, position_or_len}
use Rattle.std.proofs.lemmas.Bool.{cases_Bool, cond-true, cond-false, both_ways, ltb-false, not-false, not-true}
use Rattle.std.proofs.lemmas.List.Sums.{fails_before_first}
use Rattle.std.proofs.lemmas.List.Quantifiers.{position-Some}

module _ (p : ℕ → Bool) (xs : List ℕ) where
  pub some_is : (i : ℕ) → position p xs ≡ Some i → position_or_len p xs ≡ i
  some_is i h =
      let n = position_or_len p xs in
      elim (cases_Bool (nat_lt n (length xs))) [
        | inl t ↦ let f : Some n ≡ Some i = sym (cond-true (nat_lt n (length xs)) (Some n) None t) ∙ h in cc
        | inr e ↦ let f : None ≡ Some i = sym (cond-false (nat_lt n (length xs)) (Some n) None e) ∙ h in cc
      ]

  pub none_is : position p xs ≡ None → length xs ≤ position_or_len p xs
  none_is h =
      let n = position_or_len p xs in
      elim (cases_Bool (nat_lt n (length xs))) [
        | inl t ↦ let f : Some n ≡ None = sym (cond-true (nat_lt n (length xs)) (Some n) None t) ∙ h in cc
        | inr e ↦ ltb-false n (length xs) e
      ]

  pub none_passes : position p xs ≡ None → All (λ x. p x ≡ false) xs
  none_passes h = let n = none_is h in λ k d below. fails_before_first p xs k d (omega arith)

  pub none_before : (i : ℕ) → position p xs ≡ Some i → (k : ℕ) → k < i → p (get_or xs k 0) ≡ false
  none_before i h k below = let e = some_is i h in fails_before_first p xs k 0 (omega arith)

-- no octet fails the test
pub all_pass : (p : ℕ → Bool) (xs : List ℕ) → position (λ x. not (p x)) xs ≡ None → AllPass p xs
all_pass p xs h = λ k d below. not-false (p (get_or xs k d)) (none_passes (λ x. not (p x)) xs h k d below)

-- one does
pub one_fails : (p : ℕ → Bool) (xs : List ℕ) (i : ℕ) → position (λ x. not (p x)) xs ≡ Some i → AllPass p xs → ⊥
one_fails p xs i h all =
    let s = position-Some (λ x. not (p x)) xs i 0 h in
    both_ways (p (get_or xs i 0)) (not-true (p (get_or xs i 0)) s.1) (all i 0 s.0)

-- those before the first that fails pass
pub pass_before : (p : ℕ → Bool) (xs : List ℕ) (i : ℕ) → position (λ x. not (p x)) xs ≡ Some i → (k : ℕ) → k < i → p (get_or xs k 0) ≡ true
pass_before p xs i h k below = not-false (p (get_or xs k 0)) (none_before (λ x. not (p x)) xs i h k below)
