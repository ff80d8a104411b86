-- Two lists are the same where each of one is that of the other at its place.
use Rattle.std.proofs.Common.{◌≡◌, ◌↔◌, ℕ, ◌+◌, ◌<◌, List, [], ◌∷◌, map, length, drop, get_or, arith, sym, ap, ap₂, ◌∙◌}
use Rattle.relying_verdicts.proofs.Differing.{one_left}

first_or : {A : Type 0} → A → List A → A
first_or other [] = other
first_or other (x ∷ xs) = x

module _ {A B : Type 0} (f : A → B) (xs ys : List A) (i : ℕ) (x y : A) (below : i < length xs) (len : length xs ≡ length ys) (is_x : x ≡ get_or xs i x) (is_y : y ≡ get_or ys i y) (whole : Type 0) (leads : (map f (drop i xs) ≡ map f (drop i ys)) ↔ whole) where
  left : map f (drop i xs) ≡ f x ∷ map f (drop (i + 1) xs)
  left = ap (map f) (one_left xs i x below is_x)

  right : map f (drop i ys) ≡ f y ∷ map f (drop (i + 1) ys)
  right = ap (map f) (one_left ys i y (omega (arith, below, len)) is_y)

  -- the same here, so the rest decides
  pub rest_decides : f x ≡ f y → (map f (drop (i + 1) xs) ≡ map f (drop (i + 1) ys)) ↔ whole
  rest_decides same = (
    λ rest. leads.0 (left ∙ ap₂ (λ z zs. z ∷ zs) same rest ∙ sym right),
    λ all. ap (drop 1) (sym left ∙ leads.1 all ∙ right),
  )

  -- another one here, so not all are the same
  pub differs : (f x ≡ f y → ⊥) → whole → ⊥
  unfolding first_or
  differs other all = other (ap (first_or (f x)) (sym left ∙ leads.1 all ∙ right))
