-- Why the rows of items are not deleted, and why one more is not inserted.
use Rattle.std.proofs.Common.{◌≡◌, ℕ, ℤ, List, [], ◌∷◌, map, drop, true, Some, Option, Err, slice_get, length, ◌/◌, sym, ap, ap₂, subst, ◌∙◌, refl, inl, inr}
use Rattle.std.specs.List.{AllByRecursion, list_all}
use Rattle.sqlite_trees.specs.Tree.{rowid}
use Rattle.sqlite_sql.specs.Ops.{fits_i64}
use Rattle.sqlite_typing.specs.Types.{accepts_terms}
use Rattle.sqlite_schema.specs.declared.schema.Column.{Column}
use Rattle.sqlite_schema.specs.declared.schema.Constraint.TheVariants.{Unique}
use Rattle.sqlite_schema.specs.declared.schema.Index.{Index}
use Rattle.sqlite_schema.specs.declared.schema.Keys.{Keys}
use Rattle.sqlite_schema.specs.Rules.{are_typed, are_present, Keeps}
use Rattle.sqlite_rules.specs.Action.{works}
use Rattle.sqlite_rules.specs.Cast.{cast_row}
use Rattle.sqlite_rules.specs.Edit.{are_fresh, have_rowids, id_in, IsOversized, next_rowid, numbered, put_all}
use Rattle.sqlite_rules.specs.Lists.{Has}
use Rattle.sqlite_value.specs.declared.keys.Order.{Order}
use Rattle.sqlite.specs.declared.types.Value.TheVariants.{Null, Int}
use Rattle.sqlite.specs.Order.{Row}
use Rattle.sqlite.specs.Term.{Term}
use Rattle.sqlite.specs.Table.{Table}
use Rattle.sqlite.specs.Schema.{Schema}
use Rattle.sqlite.specs.Command.TheVariants.{Insert}
use Rattle.sqlite.specs.Source.TheVariants.{Values}
use Rattle.sqlite.specs.Rowids.TheVariants.{Chosen}
use Rattle.sqlite.specs.declared.error.Error.{Error}
use Rattle.sqlite.specs.Effect.{value_rows}
use Rattle.sqlite.specs.Listing.{understood}
use Rattle.sqlite.specs.State.{State, ExecutesInside}
use Rattle.sqlite.proofs.Callers.{IsPlain, command_of}
use Rattle.store_sql.specs.declared.fault.StoreFault.TheVariants.{Store}
use Rattle.store_sql.specs.Fault.{fault_from}
use Rattle.store_sql.specs.Cause.{MayRefuse}
use Rattle.store_sql.specs.Tables.{shaped}
use Rattle.store_sql.proofs.Refusing.{IsWhole}
use Rattle.store_sql.proofs.RefusingWrites.{insert_caused}
use Rattle.store_sql.proofs.Rowids.{numbered_given}
use Rattle.store_sql.proofs.Storable.{not_taken}
use Rattle.store_sql.proofs.Uniques.{IsNewKey, keeps_keyless, keeps_put}

drops_none : {X : Type 0} (xs : List X) → drop 0 xs ≡ xs
drops_none [] = refl
drops_none (x ∷ xs) = refl

module _ (schema : Schema) (at : ℕ) (name : List ℕ) (tree : ℕ) (columns : List Column) (key : Option ℕ) (primary : List ℕ) (uniques : List (List ℕ)) (orders : List Order)
    (is : slice_get schema.tables at ≡ Some (shaped name tree columns key primary uniques orders))
    (alone : (keys : Keys) (gone news : List Row) → works schema keys 0 tree gone news ≡ [])
    (bare : AllByRecursion (λ (t : Table). t.references ≡ []) schema.tables)
    {X : Type 0} (row : X → Row) (id : X → ℤ) (keyed : (x : X) → rowid (row x) ≡ Int (id x))
    (sql : List ℕ) (params : Row) (cells : List Term) (width : ℕ) (rest : Row)
    (command : command_of (understood schema sql) ≡ Insert at (Values cells width)) (plain : IsPlain (understood schema sql)) (whole : IsWhole sql (length params) (understood schema sql)) (accepted : accepts_terms cells params ≡ true)
    (old new : State) (xs : List X) (has : old.now.schema ≡ schema) (are : old.now.trees tree ≡ map row xs) (keeps : Keeps Unique schema old.now.trees) where
  -- what a row with this id and the rest has to meet
  pub record Fits (n : ℤ) : Type 0 where
    pub typed : are_typed key 0 columns rest ≡ true
    pub present : are_present key 0 columns (Int n ∷ rest) ≡ true
    pub fits : fits_i64 n ≡ true
    pub apart : AllByRecursion (λ (x : X). ¬ (id x ≡ n)) xs
    pub new_key : (i : Index) → Has schema.indexes i → i.table ≡ tree → IsNewKey i.order i.columns (map row xs) (Int n ∷ rest)
    pub small : ¬ IsOversized schema (shaped name tree columns key primary uniques orders) (Int n ∷ rest)

  put_caused : (n : ℤ) → Fits n → numbered Chosen (map row xs) (map (λ s. cast_row (shaped name tree columns key primary uniques orders) (drop 0 s)) (value_rows params width (length cells / width) cells)) ≡ (Int n ∷ rest) ∷ []
      → (error : Error) → ExecutesInside 0 sql params old new (Err error) → fault_from error ≡ Store → MayRefuse old new
  put_caused n it news =
      insert_caused schema at name tree columns key primary uniques orders is alone bare sql params plain whole old new has cells width ((Int n ∷ rest) ∷ []) command accepted
      (ap (λ rows. numbered Chosen rows (map (λ s. cast_row (shaped name tree columns key primary uniques orders) (drop 0 s)) (value_rows params width (length cells / width) cells))) are ∙ news)
      (record {
        typed = rw (ap (are_typed key 0 columns) (drops_none rest) ∙ it.typed) refl;
        present = rw it.present refl;
        integer = refl;
        fits = rw it.fits refl;
        free = rw (are, not_taken row id keyed n rest xs it.apart) refl;
        unique = keeps_put schema old.now.trees tree n (Int n ∷ rest) refl (λ i listed same. rw are (it.new_key i listed same)) keeps;
        small = λ new there. elim there [
          | inl same ↦ subst (λ r. ¬ IsOversized schema (shaped name tree columns key primary uniques orders) r) (sym same) it.small
          | inr none ↦ absurd none
        ];
      })

  -- SQLite chooses the id
  pub chosen_caused : map (λ s. cast_row (shaped name tree columns key primary uniques orders) (drop 0 s)) (value_rows params width (length cells / width) cells) ≡ (Null ∷ rest) ∷ [] → Fits (next_rowid (map row xs))
      → (error : Error) → ExecutesInside 0 sql params old new (Err error) → fault_from error ≡ Store → MayRefuse old new
  chosen_caused casts it =
      put_caused (next_rowid (map row xs)) it (ap (numbered Chosen (map row xs)) casts ∙ ap (λ tail. (Int (next_rowid (map row xs)) ∷ tail) ∷ []) (drops_none rest))

  -- the row has its id with it
  pub given_caused : (n : ℤ) → map (λ s. cast_row (shaped name tree columns key primary uniques orders) (drop 0 s)) (value_rows params width (length cells / width) cells) ≡ (Int n ∷ rest) ∷ [] → Fits n
      → (error : Error) → ExecutesInside 0 sql params old new (Err error) → fault_from error ≡ Store → MayRefuse old new
  given_caused n casts it = put_caused n it (ap (numbered Chosen (map row xs)) casts)

-- rows that have their ids with them
module _ (schema : Schema) (at : ℕ) (name : List ℕ) (tree : ℕ) (columns : List Column) (key : Option ℕ) (primary : List ℕ) (uniques : List (List ℕ)) (orders : List Order)
    (is : slice_get schema.tables at ≡ Some (shaped name tree columns key primary uniques orders))
    (alone : (keys : Keys) (gone news : List Row) → works schema keys 0 tree gone news ≡ [])
    (bare : AllByRecursion (λ (t : Table). t.references ≡ []) schema.tables)
    {X : Type 0} (row : X → Row) (id : X → ℤ) (keyed : (x : X) → rowid (row x) ≡ Int (id x))
    (sql : List ℕ) (params : Row) (cells : List Term) (width : ℕ)
    (command : command_of (understood schema sql) ≡ Insert at (Values cells width)) (plain : IsPlain (understood schema sql)) (whole : IsWhole sql (length params) (understood schema sql)) (accepted : accepts_terms cells params ≡ true)
    (old new : State) (xs : List X) (has : old.now.schema ≡ schema) (are : old.now.trees tree ≡ map row xs) (keeps : Keeps Unique schema old.now.trees) where
  -- what the rows have to meet, where the table has no keys
  pub record AllFit (news : List X) : Type 0 where
    pub typed : list_all (λ r. are_typed key 0 columns (drop 1 r)) (map row news) ≡ true
    pub present : list_all (are_present key 0 columns) (map row news) ≡ true
    pub integer : have_rowids (map row news) ≡ true
    pub fits : list_all (λ r. fits_i64 (id_in (rowid r))) (map row news) ≡ true
    pub free : are_fresh (map row xs) (map row news) ≡ true
    pub keyless : (i : Index) → Has schema.indexes i → ¬ (i.table ≡ tree)
    pub small : (r : Row) → Has (map row news) r → ¬ IsOversized schema (shaped name tree columns key primary uniques orders) r

  pub all_caused : (news : List X) → AllFit news
      → map (λ s. cast_row (shaped name tree columns key primary uniques orders) (drop 0 s)) (value_rows params width (length cells / width) cells) ≡ map row news
      → (error : Error) → ExecutesInside 0 sql params old new (Err error) → fault_from error ≡ Store → MayRefuse old new
  all_caused news it casts =
      insert_caused schema at name tree columns key primary uniques orders is alone bare sql params plain whole old new has cells width (map row news) command accepted
      (ap₂ (numbered Chosen) are casts ∙ numbered_given row id keyed (map row xs) news)
      (record {
        typed = it.typed;
        present = it.present;
        integer = it.integer;
        fits = it.fits;
        free = rw are it.free;
        unique = keeps_keyless schema old.now.trees tree (put_all (old.now.trees tree) (map row news)) it.keyless keeps;
        small = it.small;
      })
