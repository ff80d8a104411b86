-- No two rows of a table have the same key, since a database obeys its schema.
use Rattle.std.proofs.Common.{◌≡◌, ℕ, zero, suc, ℤ, ◌<ℤ◌, List, [], ◌∷◌, map, filter, find, slice_get, Option, Some, None, Bool, true, false, not, ◌&&◌, refl, sym, ap, subst, ◌∙◌, inl, inr, arith, true≢false, Less, Equal, Greater}
use Rattle.std.proofs.lemmas.Bool.{cases_Bool, or_parts, false_from_ne_true}
use Rattle.std.proofs.lemmas.Int.{ints}
use Rattle.std.specs.List.{AllByRecursion, list_all, list_any}
use Rattle.std.specs.Ordering.{is_eq, is_ne, int_cmp}
use Rattle.std.proofs.lemmas.Cmp.{int_ranked}
use Rattle.std.specs.declared.cmp.Ordering.{Ordering}
use Rattle.sqlite_value.proofs.OrderLemmas.{value_cmp-Int}
use Rattle.sqlite_schema.specs.Rules.{guards, passes, agree, differ, clashes}
use Rattle.sqlite_schema.specs.declared.schema.Index.{Index}
use Rattle.sqlite_schema.specs.declared.schema.Constraint.TheVariants.{Unique}
use Rattle.sqlite.specs.Ops.{binary}
use Rattle.sqlite.specs.Order.{Row}
use Rattle.sqlite.specs.Table.{Table}
use Rattle.sqlite.specs.Schema.{Schema}
use Rattle.sqlite.specs.Tree.{Trees, IsAscending, rowid}
use Rattle.sqlite.specs.Effect.{IsDatabase}
use Rattle.sqlite.specs.declared.types.Value.TheVariants.{Int}
use Rattle.sqlite_rules.specs.Lists.{Has}
use Rattle.sqlite_rules.proofs.ListLemmas.{all_has}
use Rattle.store_sql.proofs.Answering.{truth_of}

ne_is : (o : Ordering) → is_ne o ≡ not (is_eq o)
ne_is Less = refl
ne_is Equal = refl
ne_is Greater = refl

pub differ_ints : (a b : ℤ) → differ (Int a) (Int b) ≡ not (is_eq (int_cmp a b))
unfolding binary
differ_ints a b = truth_of _ ∙ ap is_ne (value_cmp-Int a b) ∙ ne_is (int_cmp a b)

one_id : (a b : ℤ) → is_eq (int_cmp a b) ≡ true → a ≡ b
one_id a b e = tied (int_cmp a b) refl e
  where
    tied : (o : Ordering) → o ≡ int_cmp a b → is_eq o ≡ true → a ≡ b
    tied Less is e = absurd (true≢false (sym e))
    tied Equal is e = int_ranked a b Equal is
    tied Greater is e = absurd (true≢false (sym e))

at_place : {X : Type 0} (P : X → Type 0) (xs : List X) (k : ℕ) (x : X) → AllByRecursion P xs → slice_get xs k ≡ Some x → P x
at_place P [] k x h e = cc
at_place P (y ∷ xs) zero x h e = let same : y ≡ x = cc in subst P same h.0
at_place P (y ∷ xs) (suc k) x h e = at_place P xs k x h.1 e

test_at : {X : Type 0} (f : X → Bool) (xs : List X) (k : ℕ) (x : X) → list_all f xs ≡ true → slice_get xs k ≡ Some x → f x ≡ true
test_at f [] k x h e = cc
test_at f (y ∷ xs) zero x h e = let same : y ≡ x = cc in subst (λ z. f z ≡ true) same (first (f y) h)
  where
    first : (b : Bool) → (b && list_all f xs) ≡ true → b ≡ true
    first true e = refl
    first false e = absurd (true≢false (sym e))
test_at f (y ∷ xs) (suc k) x h e = test_at f xs k x (rest (f y) h) e
  where
    rest : (b : Bool) → (b && list_all f xs) ≡ true → list_all f xs ≡ true
    rest true e = e
    rest false e = absurd (true≢false (sym e))

none_has : {X : Type 0} (p : X → Bool) (xs : List X) (x : X) → list_any p xs ≡ false → Has xs x → p x ≡ false
none_has p [] x none h = absurd h
none_has p (y ∷ ys) x none (inl same) = ap p same ∙ (or_parts _ _ none).0
none_has p (y ∷ ys) x none (inr later) = none_has p ys x (or_parts _ _ none).1 later

abbrev pub at_most : {X : Type 0} → Option X → List X
at_most None = []
at_most (Some x) = x ∷ []

module _ {X : Type 0} (row : X → Row) (id : X → ℤ) (keyed : (x : X) → rowid (row x) ≡ Int (id x)) where
  has_row : (xs : List X) (x : X) → Has xs x → Has (map row xs) (row x)
  has_row [] x h = absurd h
  has_row (y ∷ ys) x (inl same) = inl (ap row same)
  has_row (y ∷ ys) x (inr later) = inr (has_row ys x later)

  -- the rows with a key are one at most
  module _ (schema : Schema) (at : ℕ) (table : Table) (is : slice_get schema.tables at ≡ Some table) (number : ℕ) (index : Index) (there : slice_get schema.indexes number ≡ Some index) (guard : guards index table ≡ true)
      (trees : Trees) (xs : List X) (sound : IsDatabase (record { schema = schema; trees = trees })) (are : trees table.tree ≡ map row xs) where
    none_clashes : (e : X) → Has xs e → clashes index.order index.columns (trees table.tree) (row e) ≡ false
    none_clashes e he =
        let rule = at_place (λ t. AllByRecursion (λ r. passes Unique schema trees t r ≡ true) (trees t.tree)) schema.tables at table (sound.obeys.rules Unique) is in
        let rows = subst (AllByRecursion (λ r. passes Unique schema trees table r ≡ true)) are rule in
        let here = all_has (λ r. passes Unique schema trees table r ≡ true) (map row xs) (row e) rows (has_row xs e he) in
        let one : not (guards index table && clashes index.order index.columns (trees table.tree) (row e)) ≡ true = test_at (λ (i : Index). not (guards i table && clashes i.order i.columns (trees table.tree) (row e))) schema.indexes number index here there in
        let free : not (clashes index.order index.columns (trees table.tree) (row e)) ≡ true = sym (ap (λ b. not (b && clashes index.order index.columns (trees table.tree) (row e))) guard) ∙ one in
        false_from_ne_true _ (λ is_so. true≢false (sym free ∙ ap not is_so))

    pub one_row : (x e : X) → Has xs x → Has xs e → agree index.order index.columns (row x) index.columns (row e) ≡ true → id x ≡ id e
    one_row x e hx he same =
        let other : (agree index.order index.columns (row x) index.columns (row e) && differ (rowid (row x)) (rowid (row e))) ≡ false =
        none_has (λ other. agree index.order index.columns other index.columns (row e) && differ (rowid other) (rowid (row e))) (map row xs) (row x) (subst (λ all. clashes index.order index.columns all (row e) ≡ false) are (none_clashes e he)) (has_row xs x hx) in
        let tied : not (is_eq (int_cmp (id x) (id e))) ≡ false = sym (differ_ints (id x) (id e)) ∙ sym (ap (λ v. differ v (Int (id e))) (keyed x)) ∙ sym (ap (differ (rowid (row x))) (keyed e)) ∙ sym (ap (λ b. b && differ (rowid (row x)) (rowid (row e))) same) ∙ other in
        one_id (id x) (id e) (not_false (is_eq (int_cmp (id x) (id e))) tied)
      where
        not_false : (b : Bool) → not b ≡ false → b ≡ true
        not_false true e = refl
        not_false false e = absurd (true≢false e)

  none_passes : (p : X → Bool) (xs : List X) → ((x : X) → Has xs x → p x ≡ false) → filter p xs ≡ []
  none_passes p [] h = refl
  none_passes p (x ∷ xs) h = rw (h x (inl refl)) (none_passes p xs (λ y there. h y (inr there)))

  -- what passes a test that only one id passes is the first that passes it
  pub one_passes : (p : X → Bool) (xs : List X) → IsAscending (λ (a b : X). id a <ℤ id b) xs → ((x y : X) → Has xs x → Has xs y → p x ≡ true → p y ≡ true → id x ≡ id y) → filter p xs ≡ at_most (find p xs)
  one_passes p [] up one = refl
  one_passes p (x ∷ xs) up one = elim (cases_Bool (p x)) [
    | inl here ↦ rw here (ap (λ more. x ∷ more) (none_passes p xs (λ y there. false_from_ne_true _ (λ also.
        let l = all_has (λ (w : X). id x <ℤ id w) xs y up.0 there in let s = one x y (inl refl) (inr there) here also in absurd (grind (arith, ints))))))
    | inr gone ↦ rw gone (one_passes p xs up.1 (λ a b ha hb. one a b (inr ha) (inr hb)))
  ]
