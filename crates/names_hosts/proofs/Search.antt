-- A search by halving finds an element that is the same, if there is one.
use Rattle.std.proofs.Common.{◌≡◌, ℕ, List, [], ◌∷◌, length, get_or, Bool, sym, ◌∙◌, ap, inl, inr, arith, IsTrue}
use Rattle.std.specs.Prelude.{◌↔◌, Result, Ok, Err, is_ok}
use Rattle.std.specs.List.{list_any}
use Rattle.std.specs.List.Sorted.{IsSortedBy, IsBinarySearchResult, IsSearchInRange}
use Rattle.std.specs.declared.cmp.Ordering.{Ordering}
use Rattle.std.specs.declared.cmp.Ordering.TheVariants.{Less, Equal, Greater}
use Rattle.std.specs.Ordering.{is_lt}
use Rattle.std.specs.Cmp.{IsTotalOrder}
use Rattle.std.proofs.lemmas.Bool.{false_from_ne_true, cases_lt}
use Rattle.std.proofs.lemmas.List.Folds.{Any-from_list_any, list_any_at}
use Rattle.std.proofs.lemmas.List.Sorted.{searchable_from_sorted}

less_equal : Less ≡ Equal → ⊥
less_equal e = cc

greater_equal : Greater ≡ Equal → ⊥
greater_equal e = cc

module _ {X K : Type 0} {R : K → K → Ordering} (o : IsTotalOrder R) (key : X → K) (q : K) (same : X → Bool) (exact : (x : X) → ((R (key x) q ≡ Equal) ↔ IsTrue (same x))) where
  pub searched :
      (xs : List X) → IsSortedBy (λ a b. is_lt (R (key a) (key b))) xs → (r : Result ℕ ℕ) → IsSearchInRange r (length xs) →
      IsBinarySearchResult (λ x. R (key x) q) xs r → is_ok r ≡ list_any same xs
  searched [] sorted (Ok i) bound at = absurd (omega arith)
  searched (x ∷ xs) sorted (Ok i) bound at = sym (list_any_at same (x ∷ xs) i x bound ((exact (get_or (x ∷ xs) i x)).0 (at x)))
  searched xs sorted (Err i) bound at =
      let point = at (searchable_from_sorted o key xs q sorted) in
      sym (false_from_ne_true (list_any same xs)
      (λ t. let a = Any-from_list_any same xs t in
      let ties : R (key (get_or xs a.0 a.1)) q ≡ Equal = (exact (get_or xs a.0 a.1)).1 (ap same a.3 ∙ a.4) in
      elim (cases_lt a.0 i) [
        | inl lt ↦ less_equal (sym (point.0 a.0 a.1 (omega arith) lt) ∙ ties)
        | inr ge ↦ greater_equal (sym (point.1 a.0 a.1 ge a.2) ∙ ties)
      ]))
