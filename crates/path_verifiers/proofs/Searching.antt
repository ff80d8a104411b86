-- A search by halving in a sorted list of octet strings finds what is in it.
use Rattle.std.proofs.Common.{◌≡◌, ℕ, suc, Bool, true, false, List, [], ◌∷◌, length, get_or, Result, Ok, Err, Contains, IsTrue, arith, refl, sym, ap, ◌∙◌, inl, inr}
use Rattle.std.specs.List.{list_any}
use Rattle.std.specs.Str.{bytes_eq}
use Rattle.std.specs.Ordering.{nat_cmp, is_eq}
use Rattle.std.specs.declared.cmp.Ordering.TheVariants.{Equal}
use Rattle.std.specs.Cmp.Lexicographic.{slice_cmp}
use Rattle.std.specs.List.Sorted.{IsSorted, IsBinarySearchResult, IsSearchInRange, IsPermutation}
use Rattle.std.specs.Result.{is_ok}
use Rattle.std.proofs.lemmas.Bool.{cases_lt}
use Rattle.std.proofs.lemmas.Cmp.{nat_list_cmp_total}
use Rattle.std.proofs.lemmas.List.Folds.{list_any_at, list_any_none}
use Rattle.std.proofs.lemmas.List.Sorted.{searchable_from_sorted, list_any-IsPermutation}
use Rattle.std.proofs.lemmas.Map.Text.{is_eq-slice_cmp}
use Rattle.std.proofs.lemmas.Slice.Eq.{bytes_eq-Decides}

equal_bytes : (one other : List ℕ) → slice_cmp nat_cmp one other ≡ Equal → bytes_eq other one ≡ true
equal_bytes one other e =
    let same = (bytes_eq-Decides one other).0 (sym (is_eq-slice_cmp one other) ∙ ap is_eq e) in
    (bytes_eq-Decides other one).1 (sym same)

other_bytes : (one other : List ℕ) (b : Bool) → is_eq (slice_cmp nat_cmp one other) ≡ false → bytes_eq other one ≡ b → b ≡ false
other_bytes one other true e f =
    let same = (bytes_eq-Decides other one).0 f in
    let yes = is_eq-slice_cmp one other ∙ (bytes_eq-Decides one other).1 (sym same) in
    let both : true ≡ false = sym yes ∙ e in
    absurd cc
other_bytes one other false e f = refl

pub found : (xs : List (List ℕ)) (x : List ℕ) (r : Result ℕ ℕ) → IsSearchInRange r (length xs) → IsBinarySearchResult (λ y. slice_cmp nat_cmp y x) xs r → IsSorted (slice_cmp nat_cmp) xs → is_ok r ≡ list_any (bytes_eq x) xs
found xs x (Ok i) within at sorted = sym (list_any_at (bytes_eq x) xs i [] within (equal_bytes (get_or xs i []) x (at [])))
found xs x (Err i) within at sorted =
    let point = at (searchable_from_sorted nat_list_cmp_total (λ y. y) xs x sorted) in
    sym (list_any_none (bytes_eq x) xs (λ k d high.
    elim (cases_lt k i) [
      | inl before ↦ other_bytes (get_or xs k d) x (bytes_eq x (get_or xs k d)) (ap is_eq (point.0 k d (omega arith) before)) refl
      | inr behind ↦ other_bytes (get_or xs k d) x (bytes_eq x (get_or xs k d)) (ap is_eq (point.1 k d (omega arith) high)) refl
    ]))

-- what the test finds is in the list
found_is_contained : (xs : List (List ℕ)) (x : List ℕ) → list_any (bytes_eq x) xs ≡ true → Contains xs x
found_is_contained [] x e = absurd cc
found_is_contained (y ∷ ys) x e = by (found_is_contained ys x) (bytes_eq x y) refl e where
  by : (list_any (bytes_eq x) ys ≡ true → Contains ys x) → (b : Bool) → bytes_eq x y ≡ b → list_any (bytes_eq x) (y ∷ ys) ≡ true → Contains (y ∷ ys) x
  by rest true same e = (0, omega arith, sym ((bytes_eq-Decides x y).0 same))
  by rest false other e = let e = rw other at e in let behind = rest e in (suc behind.0, omega (arith, behind.1), behind.2)

in_listed : (xs : List (List ℕ)) (x : List ℕ) → Contains xs x → list_any (bytes_eq x) xs ≡ true
in_listed xs x (i, within, is) = list_any_at (bytes_eq x) xs i x within ((bytes_eq-Decides x (get_or xs i x)).1 (sym is))

-- the same after a sort
pub believed : (old new : List (List ℕ)) → IsPermutation old new → (x : List ℕ) → (IsTrue (list_any (bytes_eq x) new) → Contains old x) × (Contains old x → IsTrue (list_any (bytes_eq x) new))
believed old new same x =
    let alike = list_any-IsPermutation (bytes_eq x) old new same in
    (λ e. found_is_contained old x (alike ∙ e), λ c. sym alike ∙ in_listed old x c)
