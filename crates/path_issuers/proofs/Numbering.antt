-- The certificates of a path, and the conditions that look at two of them, numbered anew from the second one on.
use Rattle.std.proofs.Common.{◌≡◌, ℕ, ℤ, zero, suc, ◌-◌, ◌<◌, ◌≤◌, List, [], ◌∷◌, Option, Some, false, length, arith, refl, ap, subst, ◌∙◌, sym, inl, inr}
use Rattle.std.specs.List.{AllByRecursion}
use Rattle.std.proofs.lemmas.List.{get_or_default}
use Rattle.cert.specs.Certificate.{Certificate, is_self_issued}
use Rattle.path_conditions.specs.CertificateConditions.{path_length_of}
use Rattle.path.specs.declared.options.Options.{Options}
use Rattle.path.specs.Query.{Query, certificate_numbered}
use Rattle.path.specs.Conditions.{AreNamesChecked, IsWithinPathLength, others_between}

-- the question about certificates under an anchor
abbrev pub under : Options → ℤ → Option (List ℕ) → Certificate → List Certificate → Query
under options moment purpose anchor certificates = record {
  anchor = anchor;
  certificates = certificates;
  moment = moment;
  purpose = purpose;
  options = options;
}

-- what certificate j has to meet with each earlier one
abbrev pub WithEarlier : (Certificate → Certificate → Type 0) → Query → ℕ → Type 0
WithEarlier R q j = (i : ℕ) → 1 ≤ i → i < j → R (certificate_numbered q i) (certificate_numbered q j)

module _ (options : Options) (moment : ℤ) (purpose : Option (List ℕ)) (a c : Certificate) (cs : List Certificate) where
  abbrev whole : Query
  whole = under options moment purpose a (c ∷ cs)

  abbrev rest : Query
  rest = under options moment purpose c cs

  pub at_next : (j : ℕ) → j ≤ length cs → certificate_numbered whole (suc j) ≡ certificate_numbered rest j
  at_next j h = get_or_default (c ∷ cs) j a c (omega arith)

  pub issuer_next : (j : ℕ) → 1 ≤ j → j ≤ length cs → certificate_numbered whole (suc j - 1) ≡ certificate_numbered rest (j - 1)
  issuer_next j l h =
      let first : suc j - 1 ≡ suc (j - 1) = omega arith in
      ap (λ i. certificate_numbered whole i) first ∙ at_next (j - 1) (omega arith)

  pub between_next : (i j : ℕ) → others_between whole (suc i) (suc j) ≡ others_between rest i j
  between_next i j = refl

  pub checked_next : (j : ℕ) → j ≤ length cs → AreNamesChecked whole (suc j) → AreNamesChecked rest j
  checked_next j h (inl last) = inl (omega arith)
  checked_next j h (inr other) = inr (subst (λ x. is_self_issued x ≡ false) (at_next j h) other)

  pub checked_before : (j : ℕ) → j ≤ length cs → AreNamesChecked rest j → AreNamesChecked whole (suc j)
  checked_before j h (inl last) = inl (omega arith)
  checked_before j h (inr other) = inr (subst (λ x. is_self_issued x ≡ false) (sym (at_next j h)) other)

  pub with_earlier_next : (R : Certificate → Certificate → Type 0) (j : ℕ) → j ≤ length cs → WithEarlier R whole (suc j) → WithEarlier R rest j
  with_earlier_next R j h f i l below =
      subst (λ x. R x (certificate_numbered rest j)) (at_next i (omega arith))
      (subst (λ x. R (certificate_numbered whole (suc i)) x) (at_next j h) (f (suc i) (omega arith) (omega arith)))

  pub with_first : (R : Certificate → Certificate → Type 0) (j : ℕ) → 1 ≤ j → j ≤ length cs → WithEarlier R whole (suc j) → R c (certificate_numbered rest j)
  with_first R j l h f = subst (λ x. R c x) (at_next j h) (f 1 (omega arith) (omega arith))

  pub with_earlier_before : (R : Certificate → Certificate → Type 0) (j : ℕ) → j ≤ length cs → R c (certificate_numbered rest j) → WithEarlier R rest j → WithEarlier R whole (suc j)
  with_earlier_before R j h first f zero l below = absurd (omega arith)
  with_earlier_before R j h first f (suc zero) l below = subst (λ x. R c x) (sym (at_next j h)) first
  with_earlier_before R j h first f (suc (suc i)) l below =
      subst (λ x. R x (certificate_numbered whole (suc j))) (sym (at_next (suc i) (omega arith)))
      (subst (λ x. R (certificate_numbered rest (suc i)) x) (sym (at_next j h)) (f (suc i) (omega arith) (omega arith)))

  pub path_length_next : (j : ℕ) → j ≤ length cs → IsWithinPathLength whole (suc j) → IsWithinPathLength rest j
  path_length_next j h f i most l below lim =
      f (suc i) most (omega arith) (omega arith) (ap (λ x. path_length_of x) (at_next i (omega arith)) ∙ lim)

  pub path_length_first : (j : ℕ) → 1 ≤ j → j ≤ length cs → IsWithinPathLength whole (suc j)
      → (most : ℕ) → path_length_of c ≡ Some most → others_between rest 0 j ≤ most
  path_length_first j l h f most lim = f 1 most (omega arith) (omega arith) lim

  pub path_length_before : (j : ℕ) → j ≤ length cs → ((most : ℕ) → path_length_of c ≡ Some most → others_between rest 0 j ≤ most)
      → IsWithinPathLength rest j → IsWithinPathLength whole (suc j)
  path_length_before j h first f zero most l below lim = absurd (omega arith)
  path_length_before j h first f (suc zero) most l below lim = first most lim
  path_length_before j h first f (suc (suc i)) most l below lim =
      f (suc i) most (omega arith) (omega arith) (ap (λ x. path_length_of x) (sym (at_next (suc i) (omega arith))) ∙ lim)

module _ (options : Options) (moment : ℤ) (purpose : Option (List ℕ)) where
  -- what holds of each certificate by its number holds of all of the list
  pub all_to : (P : Certificate → Type 0) (a : Certificate) (cs : List Certificate)
      → ((j : ℕ) → 1 ≤ j → j ≤ length cs → P (certificate_numbered (under options moment purpose a cs) j)) → AllByRecursion P cs
  all_to P a [] f = tt
  all_to P a (c ∷ cs) f = (
    f 1 (omega arith) (omega arith),
    all_to P c cs (λ j l h. subst P (at_next options moment purpose a c cs j h) (f (suc j) (omega arith) (omega arith))),
  )

  pub all_from : (P : Certificate → Type 0) (a : Certificate) (cs : List Certificate)
      → AllByRecursion P cs → (j : ℕ) → 1 ≤ j → j ≤ length cs → P (certificate_numbered (under options moment purpose a cs) j)
  all_from P a [] all j l h = absurd (omega arith)
  all_from P a (c ∷ cs) all zero l h = absurd (omega arith)
  all_from P a (c ∷ cs) all (suc zero) l h = all.0
  all_from P a (c ∷ cs) all (suc (suc j)) l h =
      subst P (sym (at_next options moment purpose a c cs (suc j) (omega arith))) (all_from P c cs all.1 (suc j) (omega arith) (omega arith))
