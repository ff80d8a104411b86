-- Texts of the members of a list, joined in order.
use Rattle.std.proofs.Common.{◌≡◌, ◌≤◌, ℕ, List, ◌∷◌, ◌++◌, length, take, map, sym, ap, ◌∙◌, append_assoc}
use Rattle.std.specs.List.{flat_map}
use Rattle.std.proofs.lemmas.List.{take_all}
use Rattle.std.proofs.lemmas.List.Folds.{flat_map-map}

-- one member more is behind
pub joined_more : {X : Type 0} (f : X → List ℕ) (all text : List ℕ) (x : X) (old new : List X) → old ≡ x ∷ new → all ≡ text ++ flat_map f old → all ≡ (text ++ f x) ++ flat_map f new
joined_more f all text x old new is whole =
    whole ∙ ap (λ xs. text ++ flat_map f xs) is ∙ sym (append_assoc text (f x) (flat_map f new))

-- all members, each by what it says
pub joined_said : {X Y : Type 0} (f : Y → List ℕ) (said : X → Y) (xs : List X) (i : ℕ) → length xs ≤ i → flat_map f (map said xs) ≡ flat_map (λ x. f (said x)) (take i xs)
joined_said f said xs i all = flat_map-map f said xs ∙ ap (flat_map (λ x. f (said x))) (sym (take_all i xs all))
