-- Rows are taken from a table, or one is put into it, and no key comes twice.
use Rattle.std.proofs.Common.{◌≡◌, ℕ, ℤ, List, [], ◌∷◌, Bool, true, false, not, ◌&&◌, ◌==◌, refl, sym, ap, subst, ◌∙◌, inl, inr, Equal, arith, true≢false}
use Rattle.std.proofs.lemmas.Bool.{cases_Bool, and_parts}
use Rattle.std.proofs.lemmas.Bool.Decides.{nat_tests}
use Rattle.std.specs.List.{AllByRecursion, list_all}
use Rattle.std.specs.Cmp.{int_cmp_is}
use Rattle.std.specs.Ordering.{is_eq}
use Rattle.sqlite_value.specs.declared.keys.Order.{Order}
use Rattle.sqlite.specs.declared.types.Value.TheVariants.{Int}
use Rattle.sqlite.specs.Order.{Row}
use Rattle.sqlite.specs.Table.{Table}
use Rattle.sqlite.specs.Schema.{Schema}
use Rattle.sqlite_schema.specs.declared.schema.Constraint.TheVariants.{Unique}
use Rattle.sqlite_schema.specs.declared.schema.Index.{Index}
use Rattle.sqlite_schema.specs.Rules.{agree, clashes, differ, guards, passes, Keeps}
use Rattle.sqlite_rules.specs.Lists.{Has}
use Rattle.sqlite_rules.proofs.ListLemmas.{all_from, all_has, some_from, some_has, test_from, test_has}
use Rattle.sqlite_rules.proofs.TableLemmas.{put_has}
use Rattle.sqlite_trees.specs.Tree.{Trees, put_row, rowid, with_tree}
use Rattle.store_sql.proofs.Keys.{differ_ints}

same_tree : (a b : ℕ) → (a == b) ≡ true → a ≡ b
same_tree a b e = grind (arith, nat_tests)

fewer_clashes : (o : Order) (places : List ℕ) (rows others : List Row) (row : Row) → ((r : Row) → Has others r → Has rows r) → (guarded : Bool)
    → not (guarded && clashes o places rows row) ≡ true → not (guarded && clashes o places others row) ≡ true
fewer_clashes o places rows others row fewer false h = refl
fewer_clashes o places rows others row fewer true h = elim (cases_Bool (clashes o places others row)) [
  | inl clash ↦ absurd (let found = some_has _ others clash in true≢false (sym h ∙ ap not (some_from _ rows found.0 (fewer found.0 found.1) found.2)))
  | inr free ↦ ap not free
]

-- a table with fewer rows
module _ (schema : Schema) (db : Trees) (tree : ℕ) (rows : List Row) where
  pub keeps_less : ((r : Row) → Has rows r → Has (db tree) r) → Keeps Unique schema db → Keeps Unique schema (with_tree db tree rows)
  keeps_less fewer = over schema.tables
    where
      within : (t : Table) (r : Row) → Has (with_tree db tree rows t.tree) r → Has (db t.tree) r
      within t r there = elim (cases_Bool (t.tree == tree)) [
        | inl same ↦ subst (λ u. Has (db u) r) (sym (same_tree t.tree tree same)) (fewer r (rw same at there))
        | inr other ↦ rw other at there
      ]

      each : (t : Table) → AllByRecursion (λ row. passes Unique schema db t row ≡ true) (db t.tree) → AllByRecursion (λ row. passes Unique schema (with_tree db tree rows) t row ≡ true) (with_tree db tree rows t.tree)
      each t h = all_from _ (with_tree db tree rows t.tree) (λ row there. test_from _ schema.indexes (λ i listed.
          fewer_clashes i.order i.columns (db t.tree) (with_tree db tree rows t.tree) row (within t) (guards i t)
          (test_has (λ (i : Index). not (guards i t && clashes i.order i.columns (db t.tree) row)) schema.indexes i (all_has _ (db t.tree) row h (within t row there)) listed)))

      over : (ts : List Table) → AllByRecursion (λ (t : Table). AllByRecursion (λ row. passes Unique schema db t row ≡ true) (db t.tree)) ts
          → AllByRecursion (λ (t : Table). AllByRecursion (λ row. passes Unique schema (with_tree db tree rows) t row ≡ true) (with_tree db tree rows t.tree)) ts
      over [] h = tt
      over (t ∷ ts) h = (each t h.0, over ts h.1)

not_itself : (n : ℤ) → differ (Int n) (Int n) ≡ false
not_itself n = differ_ints n n ∙ ap (λ o. not (is_eq o)) (sym (int_cmp_is n n Equal refl))

-- no row has the key of the new one, under an order and at places
pub record IsNewKey (o : Order) (places : List ℕ) (rows : List Row) (new : Row) : Type 0 where
  pub one : (r : Row) → Has rows r → agree o places r places new ≡ false
  pub other : (r : Row) → Has rows r → agree o places new places r ≡ false

one_more_clashes : (o : Order) (places : List ℕ) (rows : List Row) (n : ℤ) (new : Row) → rowid new ≡ Int n → IsNewKey o places rows new → (row : Row) → Has (put_row new rows) row
    → (Has rows row → clashes o places rows row ≡ false) → clashes o places (put_row new rows) row ≡ false
one_more_clashes o places rows n new id fresh row there apart = elim (cases_Bool (clashes o places (put_row new rows) row)) [
  | inl clash ↦ absurd (
      let found = some_has (λ other. agree o places other places row && differ (rowid other) (rowid row)) (put_row new rows) clash in
      let parts = and_parts _ _ found.2 in
      elim (put_has new rows found.0 found.1) [
        | inl first ↦ elim (put_has new rows row there) [
          | inl second ↦ true≢false (sym parts.1 ∙ ap (λ r. differ (rowid r) (rowid row)) first ∙ ap (λ r. differ (rowid new) (rowid r)) second ∙ ap (λ v. differ v v) id ∙ not_itself n)
          | inr old ↦ true≢false (sym parts.0 ∙ ap (λ r. agree o places r places row) first ∙ fresh.other row old)
        ]
        | inr known ↦ elim (put_has new rows row there) [
          | inl second ↦ true≢false (sym parts.0 ∙ ap (λ r. agree o places found.0 places r) second ∙ fresh.one found.0 known)
          | inr old ↦ true≢false (sym (some_from (λ other. agree o places other places row && differ (rowid other) (rowid row)) rows found.0 known found.2) ∙ apart old)
        ]
      ])
  | inr free ↦ free
]

not_true : (b : Bool) → not b ≡ true → b ≡ false
not_true true e = absurd (true≢false (sym e))
not_true false e = refl

-- a table with one more row
module _ (schema : Schema) (db : Trees) (tree : ℕ) (n : ℤ) (new : Row) (id : rowid new ≡ Int n) where
  pub keeps_put : ((i : Index) → Has schema.indexes i → i.table ≡ tree → IsNewKey i.order i.columns (db tree) new) → Keeps Unique schema db → Keeps Unique schema (with_tree db tree (put_row new (db tree)))
  keeps_put fresh = over schema.tables
    where
      still : (t : Table) (rows : List Row) (row : Row) (i : Index) → (guarded : Bool) → (guarded ≡ true → clashes i.order i.columns rows row ≡ false) → not (guarded && clashes i.order i.columns rows row) ≡ true
      still t rows row i true free = ap not (free refl)
      still t rows row i false free = refl

      here : (t : Table) → t.tree ≡ tree → AllByRecursion (λ row. passes Unique schema db t row ≡ true) (db t.tree)
          → AllByRecursion (λ row. list_all (λ (i : Index). not (guards i t && clashes i.order i.columns (put_row new (db tree)) row)) schema.indexes ≡ true) (put_row new (db tree))
      here t same h = all_from (λ row. list_all (λ (i : Index). not (guards i t && clashes i.order i.columns (put_row new (db tree)) row)) schema.indexes ≡ true) (put_row new (db tree)) (λ row there.
          test_from (λ (i : Index). not (guards i t && clashes i.order i.columns (put_row new (db tree)) row)) schema.indexes (λ i listed.
          still t (put_row new (db tree)) row i (guards i t) (λ guarded.
          one_more_clashes i.order i.columns (db tree) n new id (fresh i listed (same_tree i.table t.tree (and_parts i.is_unique (i.table == t.tree) guarded).1 ∙ same)) row there (λ old.
          not_true (clashes i.order i.columns (db tree) row) (ap (λ b. not (b && clashes i.order i.columns (db tree) row)) (sym guarded)
          ∙ test_has (λ (i : Index). not (guards i t && clashes i.order i.columns (db tree) row)) schema.indexes i
          (all_has (λ row. list_all (λ (i : Index). not (guards i t && clashes i.order i.columns (db tree) row)) schema.indexes ≡ true) (db tree) row
          (subst (λ u. AllByRecursion (λ row. list_all (λ (i : Index). not (guards i t && clashes i.order i.columns (db u) row)) schema.indexes ≡ true) (db u)) same h) old) listed)))))

      each : (t : Table) → AllByRecursion (λ row. passes Unique schema db t row ≡ true) (db t.tree) → AllByRecursion (λ row. passes Unique schema (with_tree db tree (put_row new (db tree))) t row ≡ true) (with_tree db tree (put_row new (db tree)) t.tree)
      each t h = elim (cases_Bool (t.tree == tree)) [
        | inl same ↦ rw same (here t (same_tree t.tree tree same) h)
        | inr other ↦ rw other h
      ]

      over : (ts : List Table) → AllByRecursion (λ (t : Table). AllByRecursion (λ row. passes Unique schema db t row ≡ true) (db t.tree)) ts
          → AllByRecursion (λ (t : Table). AllByRecursion (λ row. passes Unique schema (with_tree db tree (put_row new (db tree))) t row ≡ true) (with_tree db tree (put_row new (db tree)) t.tree)) ts
      over [] h = tt
      over (t ∷ ts) h = (each t h.0, over ts h.1)

without_guard : (guarded clash : Bool) → guarded ≡ false → not (guarded && clash) ≡ true
without_guard true clash e = absurd (true≢false e)
without_guard false clash e = refl

-- a table without keys, whatever rows it has
module _ (schema : Schema) (db : Trees) (tree : ℕ) (rows : List Row) where
  pub keeps_keyless : ((i : Index) → Has schema.indexes i → ¬ (i.table ≡ tree)) → Keeps Unique schema db → Keeps Unique schema (with_tree db tree rows)
  keeps_keyless keyless = over schema.tables
    where
      unguarded : (t : Table) → t.tree ≡ tree → (i : Index) → Has schema.indexes i → guards i t ≡ false
      unguarded t same i listed = elim (cases_Bool (guards i t)) [
        | inl guarded ↦ absurd (keyless i listed (same_tree i.table t.tree (and_parts i.is_unique (i.table == t.tree) guarded).1 ∙ same))
        | inr free ↦ free
      ]

      each : (t : Table) → AllByRecursion (λ row. passes Unique schema db t row ≡ true) (db t.tree) → AllByRecursion (λ row. passes Unique schema (with_tree db tree rows) t row ≡ true) (with_tree db tree rows t.tree)
      each t h = elim (cases_Bool (t.tree == tree)) [
        | inl same ↦ all_from _ (with_tree db tree rows t.tree) (λ row there. test_from _ schema.indexes (λ i listed.
            without_guard (guards i t) (clashes i.order i.columns (with_tree db tree rows t.tree) row) (unguarded t (same_tree t.tree tree same) i listed)))
        | inr other ↦ rw other h
      ]

      over : (ts : List Table) → AllByRecursion (λ (t : Table). AllByRecursion (λ row. passes Unique schema db t row ≡ true) (db t.tree)) ts
          → AllByRecursion (λ (t : Table). AllByRecursion (λ row. passes Unique schema (with_tree db tree rows) t row ≡ true) (with_tree db tree rows t.tree)) ts
      over [] h = tt
      over (t ∷ ts) h = (each t h.0, over ts h.1)
