-- What a query over one table answers.
use Rattle.std.proofs.Common.{◌≡◌, ℕ, ℤ, List, [], ◌∷◌, map, filter, flat_map, Bool, true, false, Some, refl, sym, ap, ◌∙◌, drop, inl, inr, nat_le, ◌^◌, subst₂}
use Rattle.std.proofs.lemmas.Bool.{cases_Bool}
use Rattle.std.specs.List.{list_all}
use Rattle.std.specs.List.Sorted.{IsPermutation}
use Rattle.std.specs.Str.{bytes_eq}
use Rattle.std.proofs.lemmas.Map.Text.{is_eq-slice_cmp}
use Rattle.sqlite_value.proofs.OrderLemmas.{value_cmp-Blob, value_cmp-Int}
use Rattle.sqlite.specs.declared.types.Value.TheVariants.{Null, Int, Blob}
use Rattle.sqlite.specs.Order.{Row}
use Rattle.sqlite.specs.Ops.{binary, is_true}
use Rattle.sqlite_sql.specs.Ops.{from_truth}
use Rattle.sqlite_sql.specs.declared.ops.BinaryOp.TheVariants.{Compare}
use Rattle.sqlite_sql.specs.declared.ops.CompareOp.TheVariants.{Eq}
use Rattle.sqlite.specs.Collation.TheVariants.{Binary}
use Rattle.sqlite.specs.Term.{Term, Env, eval_all, holds}
use Rattle.sqlite.specs.Query.{Output, output}
use Rattle.sqlite.specs.Program.{overlay}
use Rattle.sqlite.specs.Tree.{Trees}
use Rattle.sqlite.specs.Effect.{Database, Answers}
use Rattle.std.specs.Bool.{if◌then◌else◌}
use Rattle.std.proofs.lemmas.List.Sorted.{IsPermutation-map}
use Rattle.store_sql.specs.Queries.{rows_of}
use Rattle.std.specs.Ordering.{is_eq, is_lt, int_cmp}

pub truth_of : (b : Bool) → is_true (from_truth (Some b)) ≡ b
truth_of true = refl
truth_of false = refl

pub equal_blobs : (a b : List ℕ) → is_true (binary (Compare Eq Binary) (Blob a) (Blob b)) ≡ bytes_eq a b
unfolding binary
equal_blobs a b = truth_of _ ∙ ap Rattle.std.specs.Ordering.is_eq (value_cmp-Blob a b) ∙ is_eq-slice_cmp a b

abbrev pub passing : List Term → Row → Row → Bool
passing terms params row = list_all (holds (params ∷ row ∷ [])) terms

abbrev pub shown_as : List Term → Row → Row → Row
shown_as project params row = eval_all project (params ∷ row ∷ [])

abbrev pub matched_at : List Term → Row → Row → List Env
matched_at terms params r = if passing terms params r then (params ∷ r ∷ []) ∷ [] else []

matched : (terms : List Term) (params : Row) (rows : List Row) → flat_map (matched_at terms params) rows ≡ map (λ r. params ∷ r ∷ []) (filter (passing terms params) rows)
matched terms params [] = refl
matched terms params (r ∷ rs) = elim (cases_Bool (passing terms params r)) [
  | inl passes ↦ rw (passes, matched terms params rs)
  | inr fails ↦ rw (fails, matched terms params rs)
]

shown_of : (tree : ℕ) (terms project : List Term) (params : Row) (rows : List Row) → map (λ (o : Output). o.1) (map (output (rows_of tree terms project)) (map (λ r. params ∷ r ∷ []) rows)) ≡ map (shown_as project params) rows
shown_of tree terms project params [] = refl
shown_of tree terms project params (r ∷ rs) = ap (λ more. shown_as project params r ∷ more) (shown_of tree terms project params rs)

drops_none : {X : Type 0} (xs : List X) → drop 0 xs ≡ xs
drops_none [] = refl
drops_none (x ∷ xs) = refl

no_overlay : (db : Trees) (tree : ℕ) → overlay db [] tree ≡ db tree
no_overlay db tree = elim (cases_Bool (nat_le (2 ^ 31) tree)) [
  | inl high ↦ rw high
  | inr low ↦ rw low
]

-- the answer to a query over one table, in some order
pub found_in : (tree : ℕ) (terms project : List Term) (db : Database) (params : Row) (rows : List Row)
    → Answers db (record { lets = []; body = rows_of tree terms project }) params rows
    → IsPermutation (map (shown_as project params) (filter (passing terms params) (db.trees tree))) rows
found_in tree terms project db params rows h =
    let a = h.answer Null in
    let there = ap (filter (passing terms params)) (no_overlay db.trees tree) in
    let staged : a.staged ≡ map (λ r. params ∷ r ∷ []) (filter (passing terms params) (db.trees tree)) =
    a.grouped ∙ matched terms params (overlay db.trees [] tree) ∙ ap (map (λ r. params ∷ r ∷ [])) there in
    let kept : a.kept ≡ map (output (rows_of tree terms project)) (map (λ r. params ∷ r ∷ []) (filter (passing terms params) (db.trees tree))) =
    a.distinct ∙ ap (map (output (rows_of tree terms project))) staged in
    let shown : rows ≡ map (λ (o : Output). o.1) a.ordered = a.shown ∙ drops_none (map (λ (o : Output). o.1) a.ordered) in
    let moved = IsPermutation-map (λ (o : Output). o.1) a.kept a.ordered a.same in
    subst₂ (λ (xs ys : List Row). IsPermutation xs ys) (ap (map (λ (o : Output). o.1)) kept ∙ shown_of tree terms project params (filter (passing terms params) (db.trees tree))) (sym shown) moved

pub equal_ints : (a b : ℤ) → is_true (binary (Compare Eq Binary) (Int a) (Int b)) ≡ is_eq (int_cmp a b)
unfolding binary
equal_ints a b = truth_of _ ∙ ap is_eq (value_cmp-Int a b)
