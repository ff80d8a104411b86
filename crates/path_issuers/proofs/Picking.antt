-- Places that pass a test are picked one after the other.
use Rattle.std.proofs.Common.{◌≡◌, ◌↔◌, ◌<◌, ◌+◌, ℕ, List, [], ◌∷◌, ◌++◌, Bool, true, false, cond, length, get_or, take, arith, refl, sym, ◌∙◌, subst, inl, inr, IsTrue, length-append}
use Rattle.std.specs.List.{Contains}
use Rattle.std.specs.List.Sorted.{IsStrictlyIncreasing}
use Rattle.std.proofs.lemmas.Bool.{false≢true}
use Rattle.std.proofs.lemmas.List.{take_more}
use Rattle.std.proofs.lemmas.List.Elements.{Contains-push, Contains-append_left, Contains-push_cases}
use Rattle.std.proofs.lemmas.List.Kept.{AllPairs-from_increasing}
use Rattle.std.proofs.Math.ListN.{get_or-append}
use Rattle.std.proofs.Math.Seq.{get_or-append_seam}
use Rattle.path_issuers.specs.Asking.{ArePicked}
use Rattle.path_issuers.proofs.Rising.{rises_with, place_in}

-- of numbers that rise, those before the last one rise and are less

rising_front : (xs : List ℕ) (y : ℕ) → IsStrictlyIncreasing (xs ++ y ∷ []) → IsStrictlyIncreasing xs
rising_front xs y up k within =
    let size : length (xs ++ y ∷ []) ≡ length xs + 1 = length-append xs (y ∷ []) in
    let one : get_or (xs ++ y ∷ []) k 0 ≡ get_or xs k 0 = get_or-append xs (y ∷ []) 0 k (omega arith) in
    let other : get_or (xs ++ y ∷ []) (k + 1) 0 ≡ get_or xs (k + 1) 0 = get_or-append xs (y ∷ []) 0 (k + 1) within in
    let h = up k (omega arith) in
    omega arith

rising_last : (xs : List ℕ) (y x : ℕ) → IsStrictlyIncreasing (xs ++ y ∷ []) → Contains xs x → x < y
rising_last xs y x up among =
    let at = place_in xs x among in
    let size : length (xs ++ y ∷ []) ≡ length xs + 1 = length-append xs (y ∷ []) in
    let one : get_or (xs ++ y ∷ []) at.0 0 ≡ x = get_or-append xs (y ∷ []) 0 at.0 at.1.0 ∙ at.1.1 in
    let last : get_or (xs ++ y ∷ []) (length xs) 0 ≡ y = get_or-append_seam xs y [] 0 in
    let h = AllPairs-from_increasing (xs ++ y ∷ []) up at.0 (length xs) 0 at.1.0 (omega arith) in
    omega (arith, one, last, h)

module _ (P : ℕ → Type 0) where
  pub picked_none : ArePicked P [] []
  picked_none = record { pass = λ place among. absurd (omega (arith, among.1)); all = λ place among _. among; ascending = λ up. up }

  picked_another : (xs picked : List ℕ) (x : ℕ) → P x → ArePicked P xs picked → ArePicked P (xs ++ x ∷ []) (picked ++ x ∷ [])
  picked_another xs picked x passes are = record {
    pass = λ place among. elim (Contains-push_cases picked x place among) [
      | inl before ↦ let was = are.pass place before in (Contains-append_left xs (x ∷ []) place was.0, was.1)
      | inr same ↦ (subst (λ (y : ℕ). Contains (xs ++ x ∷ []) y) same (Contains-push xs x), subst P same passes)
    ];
    all = λ place among p. elim (Contains-push_cases xs x place among) [
      | inl before ↦ Contains-append_left picked (x ∷ []) place (are.all place before p)
      | inr same ↦ subst (λ (y : ℕ). Contains (picked ++ x ∷ []) y) same (Contains-push picked x)
    ];
    ascending = λ up. rises_with picked x (are.ascending (rising_front xs x up)) (λ y among. rising_last xs x y up (are.pass y among).0);
  }

  picked_no_other : (xs picked : List ℕ) (x : ℕ) → ¬ P x → ArePicked P xs picked → ArePicked P (xs ++ x ∷ []) picked
  picked_no_other xs picked x fails are = record {
    pass = λ place among. let was = are.pass place among in (Contains-append_left xs (x ∷ []) place was.0, was.1);
    all = λ place among p. elim (Contains-push_cases xs x place among) [
      | inl before ↦ are.all place before p
      | inr same ↦ absurd (fails (subst P (sym same) p))
    ];
    ascending = λ up. are.ascending (rising_front xs x up);
  }

  picked_by : (xs picked : List ℕ) (x : ℕ) (passes : Bool) → (IsTrue passes ↔ P x) → ArePicked P xs picked
      → ArePicked P (xs ++ x ∷ []) (cond passes (picked ++ x ∷ []) picked)
  picked_by xs picked x true decides are = picked_another xs picked x (decides.0 refl) are
  picked_by xs picked x false decides are = picked_no_other xs picked x (λ p. false≢true (decides.1 p)) are

  pub picked_more : (xs : List ℕ) (i : ℕ) → i < length xs → (picked new : List ℕ) (passes : Bool) → (IsTrue passes ↔ P (get_or xs i 0))
      → new ≡ cond passes (picked ++ get_or xs i 0 ∷ []) picked → ArePicked P (take i xs) picked → ArePicked P (take (i + 1) xs) new
  picked_more xs i within picked new passes decides is are =
      subst (λ (ys : List ℕ). ArePicked P ys new) (sym (take_more xs i 0 within))
      (subst (λ (ys : List ℕ). ArePicked P (take i xs ++ get_or xs i 0 ∷ []) ys) (sym is) (picked_by (take i xs) picked (get_or xs i 0) passes decides are))
