-- What a DELETE by key, an INSERT of one row, and a SELECT by key do to one table, for any table of a store.
use Rattle.std.proofs.Common.{◌≡◌, ◌≢◌, ℕ, ℤ, ◌<ℤ◌, List, [], ◌∷◌, ◌++◌, map, filter, Bool, false, not, Some, None, Option, Ok, slice_get, refl, ap, ap₂, subst, ◌∙◌, length, ◌/◌, drop}
use Rattle.std.specs.List.{AllByRecursion}
use Rattle.std.specs.List.Sorted.{IsPermutation}
use Rattle.sqlite.specs.declared.types.Value.TheVariants.{Null, Int}
use Rattle.sqlite.specs.Order.{Row}
use Rattle.sqlite.specs.Tree.{IsAscending, rowid, put_row}
use Rattle.sqlite.specs.Term.{Term, col}
use Rattle.sqlite.specs.Schema.{Schema}
use Rattle.sqlite_schema.specs.declared.schema.Column.{Column}
use Rattle.sqlite_schema.specs.declared.schema.Keys.{Keys}
use Rattle.sqlite_schema.specs.declared.program.Program.{Program}
use Rattle.sqlite_value.specs.declared.keys.Order.{Order}
use Rattle.sqlite.specs.Source.TheVariants.{Values}
use Rattle.sqlite.specs.Command.TheVariants.{Insert, Delete, Select}
use Rattle.sqlite.specs.Edit.{next_rowid, without_all, numbered, put_all}
use Rattle.sqlite.specs.Rowids.TheVariants.{Chosen}
use Rattle.sqlite.specs.Effect.{IsDatabase, value_rows}
use Rattle.sqlite.specs.Does.{Does}
use Rattle.sqlite.specs.Listing.{understood, reads_listing}
use Rattle.sqlite.specs.State.{State, mode_of, Executes, Shown}
use Rattle.sqlite_rules.specs.Action.{works}
use Rattle.sqlite_rules.specs.Calls.{ids_of}
use Rattle.sqlite_rules.specs.Cast.{cast_row}
use Rattle.sqlite.proofs.Callers.{IsPlain, command_of, statement_of, runs_as, reads_as}
use Rattle.store_sql.specs.Queries.{rows_of}
use Rattle.store_sql.specs.Tables.{shaped}
use Rattle.store_sql.proofs.TableWrites.{deletes, inserts}
use Rattle.store_sql.proofs.Answering.{found_in, passing, shown_as}
use Rattle.store_sql.proofs.Matching.{matched}
use Rattle.store_sql.proofs.Rowids.{left_rows, put_last, below_next, numbered_given}

drops_none : {X : Type 0} (xs : List X) → drop 0 xs ≡ xs
drops_none [] = refl
drops_none (x ∷ xs) = refl

-- the schema stays, one table has the rows of these items, and each other table is as it was
pub record Leaves (schema : Schema) (tree : ℕ) (old new : State) (rows : List Row) : Type 0 where
  pub schema_is : new.now.schema ≡ schema
  pub sound : IsDatabase new.now
  pub rows_are : new.now.trees tree ≡ rows
  pub others : AllByRecursion (λ t. t.tree ≢ tree → new.now.trees t.tree ≡ old.now.trees t.tree) schema.tables

module _ (schema : Schema) (at : ℕ) (name : List ℕ) (tree : ℕ) (columns : List Column) (key : Option ℕ) (primary : List ℕ) (uniques : List (List ℕ)) (orders : List Order)
    (is : slice_get schema.tables at ≡ Some (shaped name tree columns key primary uniques orders))
    (alone : (keys : Keys) (gone news : List Row) → works schema keys 0 tree gone news ≡ [])
    {X : Type 0} (row : X → Row) (id : X → ℤ) (keyed : (x : X) → rowid (row x) ≡ Int (id x)) where
  pub deletes_by : (sql : List ℕ) (params : Row) (terms : List Term) (p : X → Bool)
      → command_of (understood schema sql) ≡ Delete at (record { lets = []; body = rows_of tree terms (col 1 0 ∷ []) }) → IsPlain (understood schema sql)
      → ((x : X) → passing terms params (row x) ≡ p x) → ((x : X) → shown_as (col 1 0 ∷ []) params (row x) ≡ Int (id x) ∷ [])
      → (old new : State) (xs : List X) (count : ℕ) → old.now.schema ≡ schema → old.now.trees tree ≡ map row xs → IsAscending (λ (a b : X). id a <ℤ id b) xs
      → Executes sql params old new (Ok count) → Leaves schema tree old new (map row (filter (λ x. not (p x)) xs))
  deletes_by sql params terms p command plain passes shows old new xs count has are rising h =
      let q : Program = record { lets = []; body = rows_of tree terms (col 1 0 ∷ []) } in
      let w = runs_as sql params old new schema has (Delete at q) command plain count h in
      let text = statement_of sql (understood schema sql) in
      let change = subst (λ s. Does old.step_limit (mode_of old) params (record old.now { schema = s }) text None (Delete at q) (Ok (w.tally, new.now))) has w.changed in
      let done = deletes schema at name tree columns key primary uniques orders is alone old.step_limit (mode_of old) params old.now.trees text q w.tally new.now change in
      let found = found_in tree terms (col 1 0 ∷ []) (record { schema = schema; trees = old.now.trees }) params done.rows done.answer in
      let ids = matched row terms (col 1 0 ∷ []) params p (λ x. Int (id x) ∷ []) passes shows (old.now.trees tree) xs are in
      let left = left_rows row id keyed p xs done.rows rising (subst (λ all. IsPermutation all done.rows) ids found) in
      record {
        schema_is = done.schema_is;
        sound = w.sound;
        rows_are = done.applies.rows ∙ ap (λ all. without_all all (ids_of done.rows)) are ∙ left;
        others = done.applies.tables;
      }

  -- SQLite chooses the rowid, behind all others
  pub inserts_one : (sql : List ℕ) (params : Row) (cells : List Term) (width : ℕ) (rest : Row)
      → command_of (understood schema sql) ≡ Insert at (Values cells width) → IsPlain (understood schema sql)
      → map (λ s. cast_row (shaped name tree columns key primary uniques orders) (drop 0 s)) (value_rows params width (length cells / width) cells) ≡ (Null ∷ rest) ∷ []
      → (old new : State) (xs : List X) (count : ℕ) → old.now.schema ≡ schema → old.now.trees tree ≡ map row xs → IsAscending (λ (a b : X). id a <ℤ id b) xs
      → Executes sql params old new (Ok count) → Leaves schema tree old new (map row xs ++ (Int (next_rowid (map row xs)) ∷ rest) ∷ [])
  inserts_one sql params cells width rest command plain casts old new xs count has are rising h =
      let w = runs_as sql params old new schema has (Insert at (Values cells width)) command plain count h in
      let text = statement_of sql (understood schema sql) in
      let change = subst (λ s. Does old.step_limit (mode_of old) params (record old.now { schema = s }) text None (Insert at (Values cells width)) (Ok (w.tally, new.now))) has w.changed in
      let done = inserts schema at name tree columns key primary uniques orders is alone old.step_limit (mode_of old) params old.now.trees text cells width w.tally new.now change in
      let put : put_all (old.now.trees tree) (numbered Chosen (old.now.trees tree) (map (λ s. cast_row (shaped name tree columns key primary uniques orders) (drop 0 s)) (value_rows params width (length cells / width) cells)))
      ≡ map row xs ++ (Int (next_rowid (map row xs)) ∷ rest) ∷ [] =
      ap₂ (λ all news. put_all all (numbered Chosen all news)) are casts
      ∙ ap (λ tail. put_row (Int (next_rowid (map row xs)) ∷ tail) (map row xs)) (drops_none rest)
      ∙ put_last row id keyed (next_rowid (map row xs)) rest xs (below_next row id keyed xs rising) in
      record {
        schema_is = done.schema_is;
        sound = w.sound;
        rows_are = done.applies.rows ∙ put;
        others = done.applies.tables;
      }

  -- the row has its rowid with it
  pub inserts_at : (sql : List ℕ) (params : Row) (cells : List Term) (width : ℕ) (n : ℤ) (rest : Row)
      → command_of (understood schema sql) ≡ Insert at (Values cells width) → IsPlain (understood schema sql)
      → map (λ s. cast_row (shaped name tree columns key primary uniques orders) (drop 0 s)) (value_rows params width (length cells / width) cells) ≡ (Int n ∷ rest) ∷ []
      → (old new : State) (xs : List X) (count : ℕ) → old.now.schema ≡ schema → old.now.trees tree ≡ map row xs
      → Executes sql params old new (Ok count) → Leaves schema tree old new (put_row (Int n ∷ rest) (map row xs))
  inserts_at sql params cells width n rest command plain casts old new xs count has are h =
      let w = runs_as sql params old new schema has (Insert at (Values cells width)) command plain count h in
      let text = statement_of sql (understood schema sql) in
      let change = subst (λ s. Does old.step_limit (mode_of old) params (record old.now { schema = s }) text None (Insert at (Values cells width)) (Ok (w.tally, new.now))) has w.changed in
      let done = inserts schema at name tree columns key primary uniques orders is alone old.step_limit (mode_of old) params old.now.trees text cells width w.tally new.now change in
      let put : put_all (old.now.trees tree) (numbered Chosen (old.now.trees tree) (map (λ s. cast_row (shaped name tree columns key primary uniques orders) (drop 0 s)) (value_rows params width (length cells / width) cells)))
      ≡ put_row (Int n ∷ rest) (map row xs) =
      ap₂ (λ all news. put_all all (numbered Chosen all news)) are casts in
      record {
        schema_is = done.schema_is;
        sound = w.sound;
        rows_are = done.applies.rows ∙ put;
        others = done.applies.tables;
      }

  -- the rows have their rowids with them
  pub inserts_all : (sql : List ℕ) (params : Row) (cells : List Term) (width : ℕ) (news : List X)
      → command_of (understood schema sql) ≡ Insert at (Values cells width) → IsPlain (understood schema sql)
      → map (λ s. cast_row (shaped name tree columns key primary uniques orders) (drop 0 s)) (value_rows params width (length cells / width) cells) ≡ map row news
      → (old new : State) (xs : List X) (count : ℕ) → old.now.schema ≡ schema → old.now.trees tree ≡ map row xs
      → Executes sql params old new (Ok count) → Leaves schema tree old new (put_all (map row xs) (map row news))
  inserts_all sql params cells width news command plain casts old new xs count has are h =
      let w = runs_as sql params old new schema has (Insert at (Values cells width)) command plain count h in
      let text = statement_of sql (understood schema sql) in
      let change = subst (λ s. Does old.step_limit (mode_of old) params (record old.now { schema = s }) text None (Insert at (Values cells width)) (Ok (w.tally, new.now))) has w.changed in
      let done = inserts schema at name tree columns key primary uniques orders is alone old.step_limit (mode_of old) params old.now.trees text cells width w.tally new.now change in
      let put : put_all (old.now.trees tree) (numbered Chosen (old.now.trees tree) (map (λ s. cast_row (shaped name tree columns key primary uniques orders) (drop 0 s)) (value_rows params width (length cells / width) cells)))
      ≡ put_all (map row xs) (map row news) =
      ap₂ (λ all rows. put_all all (numbered Chosen all rows)) are casts ∙ ap (put_all (map row xs)) (numbered_given row id keyed (map row xs) news) in
      record {
        schema_is = done.schema_is;
        sound = w.sound;
        rows_are = done.applies.rows ∙ put;
        others = done.applies.tables;
      }

  pub finds_by : (sql : List ℕ) (params : Row) (terms project : List Term) (names : List (List ℕ)) (p : X → Bool) (show : X → Row)
      → (command_of (understood schema sql) ≡ Select (record { lets = []; body = rows_of tree terms project }) names) → reads_listing schema sql ≡ false → IsPlain (understood schema sql)
      → ((x : X) → passing terms params (row x) ≡ p x) → ((x : X) → shown_as project params (row x) ≡ show x)
      → (old new : State) (xs : List X) (rows : List Row) → old.now.schema ≡ schema → old.now.trees tree ≡ map row xs
      → Shown sql params old new rows → IsPermutation (map show (filter p xs)) rows
  finds_by sql params terms project names p show command listing plain passes shows old new xs rows has are h =
      let read = reads_as sql params old new schema has (Select (record { lets = []; body = rows_of tree terms project }) names) command plain listing rows h in
      let found = found_in tree terms project old.now params rows read in
      subst (λ all. IsPermutation all rows) (matched row terms project params p show passes shows (old.now.trees tree) xs are) found
