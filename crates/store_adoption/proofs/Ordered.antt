-- A query over one table that is ordered by its ids answers the rows as they stand.
use Rattle.std.proofs.Common.{◌≡◌, ℕ, List, [], ◌∷◌, ◌++◌, map, flat_map, false, refl, ap, subst, ◌∙◌, drop, inl, inr, nat_le, ◌^◌, Less}
use Rattle.std.proofs.lemmas.Bool.{cases_Bool}
use Rattle.std.specs.List.Sorted.{IsPermutation}
use Rattle.sqlite.specs.declared.types.Value.TheVariants.{Null}
use Rattle.sqlite.specs.Collation.TheVariants.{Binary}
use Rattle.sqlite.specs.Order.{Row, value_cmp}
use Rattle.sqlite.specs.Term.{Term, col}
use Rattle.sqlite.specs.Query.{Query, Output, output, output_cmp, IsAnswer, IsSureStart}
use Rattle.sqlite.specs.Program.{overlay}
use Rattle.sqlite.specs.Tree.{Trees, IsTable, rowid}
use Rattle.sqlite.specs.Effect.{Database, Answers}
use Rattle.sqlite_sql.proofs.QueryLemmas.{output_cmp_total}
use Rattle.sqlite_keyed.proofs.SortLemmas.{sorted_unique}
use Rattle.sqlite_keyed.proofs.ListLemmas.{ascending-map, ascending_weaker}
use Rattle.store_sql.specs.Queries.{rows_of}
use Rattle.store_sql.proofs.Laws.{shown_as}

-- all rows of a table, by their ids
abbrev pub in_order_of_ids : ℕ → List Term → Query
in_order_of_ids tree project = record (rows_of tree [] project) { order = (col 1 0, record { collation = Binary; descending = false }) ∷ [] }

drops_none : {X : Type 0} (xs : List X) → drop 0 xs ≡ xs
drops_none [] = refl
drops_none (x ∷ xs) = refl

no_overlay : (db : Trees) (tree : ℕ) → overlay db [] tree ≡ db tree
no_overlay db tree = elim (cases_Bool (nat_le (2 ^ 31) tree)) [
  | inl high ↦ rw high
  | inr low ↦ rw low
]

all_match : (params : Row) (rows : List Row) → flat_map (λ (r : Row). (params ∷ r ∷ []) ∷ []) rows ≡ map (λ (r : Row). params ∷ r ∷ []) rows
all_match params [] = refl
all_match params (r ∷ rs) = ap (λ more. (params ∷ r ∷ []) ∷ more) (all_match params rs)

module _ (tree : ℕ) (project : List Term) (params : Row) where
  abbrev out : Row → Output
  out row = output (in_order_of_ids tree project) (params ∷ row ∷ [])

  shown_of : (rows : List Row) → map (λ (o : Output). o.1) (map out rows) ≡ map (shown_as project params) rows
  shown_of [] = refl
  shown_of (r ∷ rs) = ap (λ more. shown_as project params r ∷ more) (shown_of rs)

  outputs : (rows : List Row) → map (output (in_order_of_ids tree project)) (map (λ (r : Row). params ∷ r ∷ []) rows) ≡ map out rows
  outputs [] = refl
  outputs (r ∷ rs) = ap (λ more. out r ∷ more) (outputs rs)

  pub ordered_answer : (trees : Trees) (rows : List Row) → IsTable (trees tree) → IsAnswer (in_order_of_ids tree project) (overlay trees []) params rows → rows ≡ map (shown_as project params) (trees tree)
  ordered_answer trees rows rising a =
      let staged : a.staged ≡ map (λ (r : Row). params ∷ r ∷ []) (trees tree) = a.grouped ∙ all_match params (overlay trees [] tree) ∙ ap (map (λ (r : Row). params ∷ r ∷ [])) (no_overlay trees tree) in
      let kept : a.kept ≡ map out (trees tree) = a.distinct ∙ ap (map (output (in_order_of_ids tree project))) staged ∙ outputs (trees tree) in
      let rises = ascending-map (λ x y. output_cmp (in_order_of_ids tree project) x y ≡ Less) out (trees tree) (ascending_weaker (λ x y. value_cmp (rowid x) (rowid y) ≡ Less) (λ x y. output_cmp (in_order_of_ids tree project) (out x) (out y) ≡ Less) (λ x y less. later x y less) (trees tree) rising) in
      let same = sorted_unique (output_cmp (in_order_of_ids tree project)) (output_cmp_total (in_order_of_ids tree project)) (map out (trees tree)) a.ordered rises (subst (λ all. IsPermutation all a.ordered) kept a.same) a.sorted in
      a.shown ∙ drops_none (map (λ (o : Output). o.1) a.ordered) ∙ ap (map (λ (o : Output). o.1)) same ∙ shown_of (trees tree)
    where
      later : (x y : Row) → value_cmp (rowid x) (rowid y) ≡ Less → output_cmp (in_order_of_ids tree project) (out x) (out y) ≡ Less
      later x y less = rw less refl

  -- the whole answer, and one that begins with some rows
  pub ordered_whole : (db : Database) (rows : List Row) → IsTable (db.trees tree) → Answers db (record { lets = []; body = in_order_of_ids tree project }) params rows → rows ≡ map (shown_as project params) (db.trees tree)
  ordered_whole db rows rising h = ordered_answer db.trees rows rising (h.answer Null)

  pub ordered_start : (db : Database) (rows : List Row) → IsTable (db.trees tree) → IsSureStart (in_order_of_ids tree project) (overlay db.trees []) params rows → (later : List Row) × (rows ++ later ≡ map (shown_as project params) (db.trees tree))
  ordered_start db rows rising h = (h.0, ordered_answer db.trees (rows ++ h.0) rising (h.1 Null))
