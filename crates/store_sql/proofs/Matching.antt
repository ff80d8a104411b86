-- What a query over the rows of items shows.
use Rattle.std.proofs.Common.{◌≡◌, List, [], ◌∷◌, map, filter, Bool, refl, ap, ap₂, ◌∙◌, inl, inr}
use Rattle.std.proofs.lemmas.Bool.{cases_Bool}
use Rattle.sqlite.specs.Order.{Row}
use Rattle.sqlite.specs.Term.{Term}
use Rattle.store_sql.proofs.Answering.{passing, shown_as}

module _ {X : Type 0} (row : X → Row) where
  pub filtered : (p : Row → Bool) (q : X → Bool) → ((x : X) → p (row x) ≡ q x) → (xs : List X) → filter p (map row xs) ≡ map row (filter q xs)
  filtered p q same [] = refl
  filtered p q same (x ∷ xs) = elim (cases_Bool (q x)) [
    | inl passes ↦ rw (same x, passes, filtered p q same xs)
    | inr fails ↦ rw (same x, fails, filtered p q same xs)
  ]

  shown_rows : (project : List Term) (params : Row) (show : X → Row) → ((x : X) → shown_as project params (row x) ≡ show x) → (xs : List X) → map (shown_as project params) (map row xs) ≡ map show xs
  shown_rows project params show same [] = refl
  shown_rows project params show same (x ∷ xs) = ap₂ (λ a b. a ∷ b) (same x) (shown_rows project params show same xs)

  -- what a query over the rows of items shows
  pub matched : (terms project : List Term) (params : Row) (q : X → Bool) (show : X → Row) → ((x : X) → passing terms params (row x) ≡ q x) → ((x : X) → shown_as project params (row x) ≡ show x)
      → (rows : List Row) (xs : List X) → rows ≡ map row xs → map (shown_as project params) (filter (passing terms params) rows) ≡ map show (filter q xs)
  matched terms project params q show passes shows rows xs are =
      ap (λ all. map (shown_as project params) (filter (passing terms params) all)) are
      ∙ ap (map (shown_as project params)) (filtered (passing terms params) q passes xs) ∙ shown_rows project params show shows (filter q xs)
