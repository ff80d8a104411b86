-- What is picked of a list by a test on policies: what is on the list and passes.
use Rattle.std.proofs.Common.{◌≡◌, ℕ, Bool, true, false, ◌&&◌, ◌||◌, List, [], ◌∷◌, map, refl, ap, ◌∙◌}
use Rattle.std.specs.List.{list_any}
use Rattle.std.specs.Str.{bytes_eq}
use Rattle.std.proofs.lemmas.Slice.Eq.{bytes_eq-Decides}

passed : (t r : Bool) → ((t && true) || (r && t)) ≡ t
passed true true = refl
passed true false = refl
passed false true = refl
passed false false = refl

failed : (t : Bool) (r : Bool) → ((t && false) || r) ≡ r
failed true r = refl
failed false r = refl

module _ {X : Type 0} (f : X → List ℕ) (test : List ℕ → Bool) (policy : List ℕ) where
  one_more : (x : X) (b rest others : Bool) → bytes_eq (f x) policy ≡ b → rest ≡ (others && test policy) → ((test (f x) && b) || rest) ≡ ((b || others) && test policy)
  one_more x true rest others same is =
      let at : f x ≡ policy = (bytes_eq-Decides (f x) policy).0 same in
      ap (λ t. (t && true) || rest) (ap test at) ∙ ap (λ r. (test policy && true) || r) is ∙ passed (test policy) others
  one_more x false rest others other is = failed (test (f x)) rest ∙ is

  pub picked : (xs : List X) → list_any (λ x. test (f x) && bytes_eq (f x) policy) xs ≡ (list_any (λ x. bytes_eq (f x) policy) xs && test policy)
  picked [] = refl
  picked (x ∷ xs) = one_more x (bytes_eq (f x) policy) _ _ refl (picked xs)

pub mapped_any : {X : Type 0} (f : X → List ℕ) (policy : List ℕ) (xs : List X) → list_any (λ stated. bytes_eq stated policy) (map f xs) ≡ list_any (λ x. bytes_eq (f x) policy) xs
mapped_any f policy [] = refl
mapped_any f policy (x ∷ xs) = ap (λ b. bytes_eq (f x) policy || b) (mapped_any f policy xs)

pub any_of_map : {X Y : Type 0} (f : X → Y) (test : Y → Bool) (xs : List X) → list_any test (map f xs) ≡ list_any (λ x. test (f x)) xs
any_of_map f test [] = refl
any_of_map f test (x ∷ xs) = ap (λ b. test (f x) || b) (any_of_map f test xs)
