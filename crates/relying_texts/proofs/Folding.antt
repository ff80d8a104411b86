-- Lists that are gone through, and what is gathered or held on the way.
use Rattle.std.proofs.Common.{◌≡◌, ℕ, suc, ◌+◌, ◌<◌, Bool, List, [], ◌∷◌, ◌++◌, length, drop, get_or, arith, Option, filter_map, refl, sym, ap, ◌∙◌, append_assoc}
use Rattle.std.specs.List.{flat_map}
use Rattle.std.proofs.Math.Seq.{drop-cons}
use Rattle.std.proofs.lemmas.List.Elements.{filter_map-append}
use Rattle.statements_facts.specs.Newest.{newer_of, held_after}

-- the next of those that are left
pub one_left : {A : Type 0} (xs : List A) (i : ℕ) (x : A) → i < length xs → x ≡ get_or xs i x → drop i xs ≡ x ∷ drop (i + 1) xs
one_left xs i x below is =
    let later : suc i ≡ i + 1 = omega arith in
    drop-cons xs i x below ∙ ap (λ y. y ∷ drop (suc i) xs) (sym is) ∙ ap (λ n. x ∷ drop n xs) later

pub none_added : {A : Type 0} (xs : List A) → xs ++ [] ≡ xs
none_added [] = refl
none_added (x ∷ xs) = ap (λ more. x ∷ more) (none_added xs)

-- ---- what is gathered

-- one more of those that are left tells something
pub gathered : {X A : Type 0} (tells : X → List A) (here sofar new : List A) (x : X) (left rest : List X) (whole : List A)
    → left ≡ x ∷ rest → here ≡ tells x → new ≡ sofar ++ here → sofar ++ flat_map tells left ≡ whole → new ++ flat_map tells rest ≡ whole
gathered tells here sofar new x left rest whole left_is here_is new_is so_far =
    ap (λ l. l ++ flat_map tells rest) (new_is ∙ ap (λ h. sofar ++ h) here_is)
    ∙ append_assoc sofar (tells x) (flat_map tells rest)
    ∙ ap (λ l. sofar ++ flat_map tells l) (sym left_is)
    ∙ so_far

-- ---- what is held

module _ {F : Type 0} (newer : F → F → Bool) where
  both_lists : (start : Option F) (xs ys : List F) → held_after newer start (xs ++ ys) ≡ held_after newer (held_after newer start xs) ys
  both_lists start [] ys = refl
  both_lists start (x ∷ xs) ys = both_lists (newer_of newer start x) xs ys

  -- the facts of one more of those that are left came
  pub came : {X A : Type 0} (tells : X → List A) (pick : A → Option F) (held next : Option F) (x : X) (left rest : List X) (target : Option F)
      → left ≡ x ∷ rest → next ≡ held_after newer held (filter_map pick (tells x)) → held_after newer held (filter_map pick (flat_map tells left)) ≡ target
      → held_after newer next (filter_map pick (flat_map tells rest)) ≡ target
  came tells pick held next x left rest target left_is next_is so_far =
      ap (λ h. held_after newer h (filter_map pick (flat_map tells rest))) next_is
      ∙ sym (both_lists held (filter_map pick (tells x)) (filter_map pick (flat_map tells rest)))
      ∙ ap (held_after newer held) (sym (filter_map-append pick (tells x) (flat_map tells rest)))
      ∙ ap (λ l. held_after newer held (filter_map pick (flat_map tells l))) (sym left_is)
      ∙ so_far
