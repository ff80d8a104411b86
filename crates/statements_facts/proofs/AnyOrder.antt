-- Entries of which no two have one serial number say the same in any order.
use Rattle.std.proofs.Common.{◌≡◌, ℕ, Bool, true, false, ◌⊎◌, inl, inr, List, [], ◌∷◌, Option, Some, None, map, refl, sym, ◌∙◌, subst}
use Rattle.std.specs.List.{All, AllByRecursion}
use Rattle.std.specs.List.Sorted.{IsPermutation, IsStrictlySortedBy}
use Rattle.std.specs.Ordering.{nat_cmp, ordering_reverse}
use Rattle.std.specs.declared.cmp.Ordering.{Ordering}
use Rattle.std.specs.declared.cmp.Ordering.TheVariants.{Less, Equal, Greater}
use Rattle.std.specs.Cmp.Lexicographic.{slice_cmp}
use Rattle.std.specs.Str.{bytes_eq}
use Rattle.std.proofs.lemmas.Cmp.{nat_list_cmp_total}
use Rattle.std.proofs.lemmas.List.Elements.{All-from_recursion, recursion_from_All}
use Rattle.std.proofs.lemmas.List.Sorted.{All-permutation, IsPermutation-sym}
use Rattle.std.proofs.lemmas.Slice.Eq.{bytes_eq-Decides}
use Rattle.statements_facts.specs.Listed.{ListedSerial, IsAscending, first_reason}

-- no text is less than itself
not_less : (order : Ordering) → order ≡ ordering_reverse order → order ≡ Less → (P : Type 0) → P
not_less Less turned is P = absurd cc
not_less Equal turned is P = absurd cc
not_less Greater turned is P = absurd cc

module _ {X : Type 0} (seen : X → ListedSerial) (serial : List ℕ) where
  abbrev has : X → Bool
  has x = bytes_eq (seen x).serial serial

  abbrev reason_in : List X → Option ℕ
  reason_in xs = first_reason (map seen xs) serial

  abbrev Says : Option ℕ → X → Type 0
  Says reason x = has x ≡ true → reason ≡ Some (seen x).reason

  abbrev Lacks : X → Type 0
  Lacks x = has x ≡ false

  -- ---- where serial numbers ascend, each entry that has this one says the reason

  skipped : (x y : X) (ys : List X) → slice_cmp nat_cmp (seen x).serial (seen y).serial ≡ Less → has y ≡ true → reason_in (x ∷ ys) ≡ reason_in ys
  skipped x y ys low here = by (has x) refl where
    by : (b : Bool) → has x ≡ b → reason_in (x ∷ ys) ≡ reason_in ys
    by false e = rw e refl
    by true e =
        let same : (seen x).serial ≡ (seen y).serial = (bytes_eq-Decides (seen x).serial serial).0 e ∙ sym ((bytes_eq-Decides (seen y).serial serial).0 here) in
        let itself : slice_cmp nat_cmp (seen y).serial (seen y).serial ≡ Less = subst (λ s. slice_cmp nat_cmp s (seen y).serial ≡ Less) same low in
        not_less _ (nat_list_cmp_total.antisymm (seen y).serial (seen y).serial) itself _

  behind : (x : X) (ys zs : List X) → AllByRecursion (λ z. slice_cmp nat_cmp (seen x).serial z.serial ≡ Less) (map seen zs) → AllByRecursion (Says (reason_in ys)) zs → AllByRecursion (Says (reason_in (x ∷ ys))) zs
  behind x ys [] low says = tt
  behind x ys (z ∷ zs) low says = ((λ here. skipped x z ys low.0 here ∙ says.0 here), behind x ys zs low.1 says.1)

  first_says : (x : X) (ys : List X) → Says (reason_in (x ∷ ys)) x
  first_says x ys here = rw here refl

  all_say : (ys : List X) → IsAscending (map seen ys) → AllByRecursion (Says (reason_in ys)) ys
  unfolding IsStrictlySortedBy
  all_say [] up = tt
  all_say (y ∷ ys) up = (first_says y ys, behind y ys ys up.0 (all_say ys up.1))

  -- ---- what all say is said, where one has this number at all

  said : (reason : Option ℕ) (xs : List X) → AllByRecursion (Says reason) xs → (reason ≡ reason_in xs) ⊎ AllByRecursion Lacks xs
  said reason [] says = inr tt
  said reason (x ∷ xs) says = by (has x) refl (said reason xs says.1) where
    by : (b : Bool) → has x ≡ b → (reason ≡ reason_in xs) ⊎ AllByRecursion Lacks xs → (reason ≡ reason_in (x ∷ xs)) ⊎ AllByRecursion Lacks (x ∷ xs)
    by true e rest = inl (says.0 e ∙ sym (first_says x xs e))
    by false e (inl is) = inl (rw e is)
    by false e (inr lack) = inr (e, lack)

  unsaid : (xs : List X) → AllByRecursion Lacks xs → reason_in xs ≡ None
  unsaid [] lack = refl
  unsaid (x ∷ xs) lack = rw lack.0 (unsaid xs lack.1)

  -- ---- and is said in the other order

  pub same_reason : (xs ys : List X) → IsPermutation xs ys → IsAscending (map seen ys) → reason_in ys ≡ reason_in xs
  same_reason xs ys moved up =
      let told : All (Says (reason_in ys)) xs = All-permutation (Says (reason_in ys)) ys xs (IsPermutation-sym xs ys moved) (All-from_recursion (Says (reason_in ys)) ys (all_say ys up)) in
      elim (said (reason_in ys) xs (recursion_from_All (Says (reason_in ys)) xs told)) [
        | inl is ↦ is
        | inr lack ↦ unsaid ys (recursion_from_All Lacks ys (All-permutation Lacks xs ys moved (All-from_recursion Lacks xs lack))) ∙ sym (unsaid xs lack)
      ]
