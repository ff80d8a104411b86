-- Lists of numbers that rise, and which numbers they contain.
use Rattle.std.proofs.Common.{eqb, get_or-take, ◌≡◌, ◌≢◌, ◌⊎◌, ◌<◌, ◌≤◌, ◌+◌, ℕ, List, [], ◌∷◌, ◌++◌, length, get_or, take, arith, refl, ap, sym, ◌∙◌, subst, inl, inr}
use Rattle.std.specs.List.{Contains, list_any}
use Rattle.std.specs.List.Sorted.{IsStrictlyIncreasing}
use Rattle.std.proofs.lemmas.Bool.{cases_order, cases_lt, cases_Bool, eqb-true, eq-eqb, false≢true}
use Rattle.std.proofs.lemmas.List.{get_or_default, length-append, length-take-le}
use Rattle.std.proofs.Math.Seq.{get_or-append_seam}
use Rattle.std.proofs.Math.ListN.{get_or-append}
use Rattle.std.proofs.lemmas.List.Elements.{Contains-get_or}
use Rattle.std.proofs.lemmas.List.Kept.{AllPairs-from_increasing}
use Rattle.std.proofs.lemmas.Map.Keys.{sorted_from_strictly_increasing}
use Rattle.std.proofs.lemmas.List.Folds.{Any-from_list_any, list_any-from_Any}
use Rattle.std.proofs.lemmas.Map.Views.{length-le_from_below}

pub same_or_not : (a b : ℕ) → (a ≡ b) ⊎ (a ≢ b)
same_or_not a b =
    elim (cases_order a b) [
      | inl e ↦ inl e
      | inr (inl lt) ↦ inr (λ e. let no : a < a = subst (λ (n : ℕ). a < n) (sym e) lt in omega arith)
      | inr
          (inr gt) ↦ inr (λ e. let no : b < b = subst (λ (n : ℕ). b < n) e gt in omega arith)
    ]

-- a greater number may be added at the end
pub rises_with : (xs : List ℕ) (y : ℕ) → IsStrictlyIncreasing xs → ((x : ℕ) → Contains xs x → x < y) → IsStrictlyIncreasing (xs ++ y ∷ [])
rises_with xs y up below k within =
    let size : length (xs ++ y ∷ []) ≡ length xs + 1 = length-append xs (y ∷ []) in
    elim (cases_lt (k + 1) (length xs)) [
      | inl inside ↦
          let one : get_or (xs ++ y ∷ []) k 0 ≡ get_or xs k 0 = get_or-append xs (y ∷ []) 0 k (omega arith) in
          let other : get_or (xs ++ y ∷ []) (k + 1) 0 ≡ get_or xs (k + 1) 0 = get_or-append xs (y ∷ []) 0 (k + 1) inside in
          let h = up k inside in
          omega arith
      | inr last ↦
          let same : k + 1 ≡ length xs = omega arith in
          let one : get_or (xs ++ y ∷ []) k 0 ≡ get_or xs k 0 = get_or-append xs (y ∷ []) 0 k (omega arith) in
          let other : get_or (xs ++ y ∷ []) (k + 1) 0 ≡ y = ap (λ n. get_or (xs ++ y ∷ []) n 0) same ∙ get_or-append_seam xs y [] 0 in
          let h = below (get_or xs k 0) (Contains-get_or xs k 0 (omega arith)) in
          omega arith
    ]

pub place_in : (xs : List ℕ) (x : ℕ) → Contains xs x → (k : ℕ) × ((k < length xs) × (get_or xs k 0 ≡ x))
place_in xs x h = (h.0, (h.1, get_or_default xs h.0 0 x h.1 ∙ h.2))

-- what is among the first ones is less than the next one
pub earlier_is_less : (xs : List ℕ) → IsStrictlyIncreasing xs → (i : ℕ) → i < length xs → (x : ℕ) → Contains (take i xs) x → x < get_or xs i 0
earlier_is_less xs up i there x h =
    let at = place_in (take i xs) x h in
    let short : at.0 < i = omega (arith, at.1.0, length-take-le i xs (omega arith)) in
    subst (λ (n : ℕ). n < get_or xs i 0) (sym (get_or-take i xs at.0 0 short) ∙ at.1.1) (AllPairs-from_increasing xs up at.0 i 0 short there)

pub not_longer : (n : ℕ) (xs : List ℕ) → IsStrictlyIncreasing xs → ((x : ℕ) → Contains xs x → x < n) → length xs ≤ n
not_longer n xs up below =
    length-le_from_below n xs (sorted_from_strictly_increasing xs up) (λ k d there. below (get_or xs k d) (Contains-get_or xs k d there))

pub contains_or_not : (xs : List ℕ) (x : ℕ) → Contains xs x ⊎ ¬ Contains xs x
contains_or_not xs x =
    elim (cases_Bool (list_any (λ y. eqb y x) xs)) [
      | inl t ↦ let a = Any-from_list_any (λ y. eqb y x) xs t in inl (subst (λ (y : ℕ). Contains xs y) (eqb-true a.1 x a.4) (a.0, a.2, a.3))
      | inr f ↦ inr (λ h. false≢true (sym f ∙ list_any-from_Any (λ y. eqb y x) xs (h.0, x, h.1, h.2, eq-eqb x x refl)))
    ]
