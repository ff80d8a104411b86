-- Files that are opened again hold the store that was closed: the schema follows from the trees.
use Rattle.std.proofs.Common.{◌≡◌, ℕ, zero, suc, ◌+◌, ◌≤◌, pos, List, [], ◌∷◌, Ok, Result, Some, length, slice_get, filter, map, true, false, refl, sym, ap, ap₂, subst, ◌∙◌, inl, inr, arith, true≢false}
use Rattle.std.specs.List.{AllZip, AllByRecursion}
use Rattle.std.specs.Char.{to_ascii_lowercase}
use Rattle.std.proofs.lemmas.Map.Text.{is_eq-slice_cmp}
use Rattle.std.proofs.lemmas.Slice.Eq.{bytes_eq-Decides}
use Rattle.sqlite_disk.specs.declared.Disk.{Ghosts}
use Rattle.sqlite_disk.specs.declared.Files.{Files}
use Rattle.sqlite_store.specs.declared.store.FileStore.{FileStore}
use Rattle.sqlite.specs.declared.types.Value.{Value}
use Rattle.sqlite.specs.declared.types.Value.TheVariants.{Null, Int, Real, Text, Blob}
use Rattle.sqlite.specs.Order.{Row, column}
use Rattle.sqlite.specs.Tree.{Trees, IsAscending}
use Rattle.sqlite.specs.Table.{Table}
use Rattle.sqlite.specs.Schema.{Schema}
use Rattle.sqlite.specs.Effect.{Database}
use Rattle.sqlite.specs.Held.{Held}
use Rattle.sqlite.specs.Files.{file_state}
use Rattle.sqlite.specs.Closing.{IsCopied}
use Rattle.sqlite.specs.WalReads.{AreClean}
use Rattle.sqlite.proofs.Callers.{finds_again}
use Rattle.sqlite_schema.specs.declared.schema.Index.{Index}
use Rattle.sqlite_schema.specs.Names.{same_name}
use Rattle.sqlite_rules.specs.Lists.{Has}
use Rattle.sqlite_rules.proofs.ListLemmas.{all_has}
use Rattle.sqlite_catalog.specs.Listing.{IsTableRow, IsIndexRow, IsDefined, IsSound, automatic, is_index_row}
use Rattle.sqlite_trees.specs.Objects.{catalog_tree}
use Rattle.store_sql.specs.declared.origin.Origin.{Origin}
use Rattle.store_sql.specs.declared.origin.Origin.TheVariants.{Made, Migrated}
use Rattle.store_sql.specs.Tables.{store_schema}
use Rattle.store_maps.specs.Held.{IsStoreOf}
use Rattle.store_adoption.specs.Creates.{IsSettled}
use Rattle.store.specs.Adopts.{Reopens}

same_tree : (m n : ℕ) → ◌≡◌ {A = Value} (Int (pos (m + 1))) (Int (pos (n + 1))) → m ≡ n
same_tree m n e = let same : m + 1 ≡ n + 1 = cc in omega (arith, same)

same_text : (a b : List ℕ) → ◌≡◌ {A = Value} (Text a) (Text b) → a ≡ b
same_text a b e = cc

-- a row of sqlite_schema names one table
table_of_row : (row : Row) (s t : Table) → IsTableRow row s → IsTableRow row t → s ≡ t
table_of_row row s t a b =
    let tree = same_tree s.tree t.tree (sym a.described.id ∙ b.described.id) in
    let sql = same_text a.sql b.sql (sym a.sql_is ∙ b.sql_is) in
    let made : a.defined.0 ≡ b.defined.0 = (let e = sym a.defined.1 ∙ ap Rattle.sqlite.specs.Compile.table_defined_by sql ∙ b.defined.1 in cc) in
    a.defined.2 ∙ ap₂ (λ (made : Table) tree. record made { tree = tree }) made tree ∙ sym b.defined.2

tables_of_rows : (rows : List Row) (ss ts : List Table) → AllZip IsTableRow rows ss → AllZip IsTableRow rows ts → ss ≡ ts
tables_of_rows [] [] [] a b = refl
tables_of_rows (r ∷ rows) (s ∷ ss) (t ∷ ts) a b = ap₂ (λ x xs. x ∷ xs) (table_of_row r s t a.0 b.0) (tables_of_rows rows ss ts a.1 b.1)
tables_of_rows [] (s ∷ ss) ts a b = absurd a
tables_of_rows [] [] (t ∷ ts) a b = absurd b
tables_of_rows (r ∷ rows) [] ts a b = absurd a
tables_of_rows (r ∷ rows) (s ∷ ss) [] a b = absurd b

none_zipped : {X Y : Type 0} (R S : X → Y → Type 0) (xs : List X) (ys : List Y) → AllZip R xs [] → AllZip S xs ys → ys ≡ []
none_zipped R S [] [] a b = refl
none_zipped R S [] (y ∷ ys) a b = absurd b
none_zipped R S (x ∷ xs) ys a b = absurd a

names_itself : (n : List ℕ) → same_name n n ≡ true
unfolding same_name
names_itself n = is_eq-slice_cmp (map to_ascii_lowercase n) (map to_ascii_lowercase n) ∙ (bytes_eq-Decides (map to_ascii_lowercase n) (map to_ascii_lowercase n)).1 refl

-- two tables with one name are one
same_table : (ts : List Table) (s t : Table) → IsAscending (λ (a b : Table). same_name a.name b.name ≡ false) ts → Has ts s → Has ts t → s.name ≡ t.name → s ≡ t
same_table [] s t up hs ht e = absurd hs
same_table (u ∷ ts) s t up (inl a) (inl b) e = a ∙ sym b
same_table (u ∷ ts) s t up (inl a) (inr b) e =
    absurd (true≢false (sym (names_itself t.name) ∙ ap (λ n. same_name n t.name) (sym e ∙ ap (λ (x : Table). x.name) a) ∙ all_has (λ (w : Table). same_name u.name w.name ≡ false) ts t up.0 b))
same_table (u ∷ ts) s t up (inr a) (inl b) e =
    absurd (true≢false (sym (names_itself s.name) ∙ ap (λ n. same_name n s.name) (e ∙ ap (λ (x : Table). x.name) b) ∙ all_has (λ (w : Table). same_name u.name w.name ≡ false) ts s up.0 a))
same_table (u ∷ ts) s t up (inr a) (inr b) e = same_table ts s t up.1 a b e

-- a table with at most one key of its own
abbrev HasOneKey : Table → Type 0
HasOneKey t = length t.uniques ≤ 1

first_alone : {X : Type 0} (xs : List X) (at : ℕ) (x : X) → length xs ≤ 1 → slice_get xs at ≡ Some x → at ≡ 0
first_alone xs zero x one got = refl
first_alone [] (suc at) x one got = absurd cc
first_alone (y ∷ []) (suc at) x one got = absurd cc
first_alone (y ∷ z ∷ more) (suc at) x one got = absurd (omega arith)

defined_alike : (t : Table) (v : Value) (i j : Index) → HasOneKey t → i.tree ≡ j.tree → IsDefined t i v → IsDefined t j v → i ≡ j
defined_alike t Null i j one tree a b =
    let at = first_alone t.uniques a.0 a.1 one a.2 in
    let also = first_alone t.uniques b.0 b.1 one b.2 in
    let here : a.0 ≡ b.0 = at ∙ sym also in
    let some : Some a.1 ≡ Some b.1 = sym a.2 ∙ ap (slice_get t.uniques) here ∙ b.2 in
    let key : a.1 ≡ b.1 = cc in
    a.3 ∙ ap₂ (λ n k. automatic t n k i.tree) here key ∙ ap (automatic t b.0 b.1) tree ∙ sym b.3
defined_alike t (Text sql) i j one tree a b =
    let both : ◌≡◌ {A = Result Index _} (Ok a.0) (Ok b.0) = sym a.1 ∙ b.1 in
    let made : a.0 ≡ b.0 = cc in
    a.2 ∙ ap₂ (λ (made : Index) n. record made { tree = n; table = t.tree }) made tree ∙ sym b.2
defined_alike t (Int n) i j one tree a b = absurd a
defined_alike t (Real x) i j one tree a b = absurd a
defined_alike t (Blob x) i j one tree a b = absurd a

module _ (tables : List Table) (named : IsAscending (λ (a b : Table). same_name a.name b.name ≡ false) tables) (one : AllByRecursion HasOneKey tables) where
  index_of_row : (row : Row) (i j : Index) → IsIndexRow tables row i → IsIndexRow tables row j → i ≡ j
  index_of_row row i j a b =
      let table = same_table tables a.table b.table named a.listed b.listed (same_text _ _ (sym a.described.owner_is ∙ b.described.owner_is)) in
      let tree = same_tree i.tree j.tree (sym a.described.id ∙ b.described.id) in
      defined_alike a.table (column row 4) i j (all_has HasOneKey tables a.table one a.listed) tree a.defined (subst (λ t. IsDefined t j (column row 4)) (sym table) b.defined)

  indexes_of_rows : (rows : List Row) (is js : List Index) → AllZip (IsIndexRow tables) rows is → AllZip (IsIndexRow tables) rows js → is ≡ js
  indexes_of_rows [] [] [] a b = refl
  indexes_of_rows (r ∷ rows) (s ∷ ss) (t ∷ ts) a b = ap₂ (λ x xs. x ∷ xs) (index_of_row r s t a.0 b.0) (indexes_of_rows rows ss ts a.1 b.1)
  indexes_of_rows [] (s ∷ ss) ts a b = absurd a
  indexes_of_rows [] [] (t ∷ ts) a b = absurd b
  indexes_of_rows (r ∷ rows) [] ts a b = absurd a
  indexes_of_rows (r ∷ rows) (s ∷ ss) [] a b = absurd b

-- a schema with no view follows from the trees
keyed_schema_of_trees : (tables : List Table) (indexes : List Index) (s : Schema) (trees : Trees) → AllByRecursion HasOneKey tables
    → IsSound (record { tables = tables; indexes = indexes; views = [] }) trees → IsSound s trees → s ≡ record { tables = tables; indexes = indexes; views = [] }
keyed_schema_of_trees tables indexes s trees one a b =
    let same = tables_of_rows _ s.tables tables b.lists.listed.tables a.lists.listed.tables in
    let also = subst (λ ts. AllZip (IsIndexRow ts) (filter is_index_row (trees catalog_tree)) s.indexes) same b.lists.listed.indexes in
    let indexed = indexes_of_rows tables a.lists.listed.named one (filter is_index_row (trees catalog_tree)) s.indexes indexes also a.lists.listed.indexes in
    let views = none_zipped _ _ _ s.views a.lists.listed.views b.lists.listed.views in
    λ i. record { tables = same i; indexes = indexed i; views = views i }

pub store_schema_of_trees : (origin : Origin) (s : Schema) (trees : Trees) → IsSound (store_schema origin) trees → IsSound s trees → s ≡ store_schema origin
store_schema_of_trees Made s trees = keyed_schema_of_trees (store_schema Made).tables (store_schema Made).indexes s trees (omega arith, (omega arith, (omega arith, (omega arith, (omega arith, tt)))))
store_schema_of_trees Migrated s trees = keyed_schema_of_trees (store_schema Migrated).tables (store_schema Migrated).indexes s trees (omega arith, (omega arith, (omega arith, (omega arith, (omega arith, (omega arith, (omega arith, tt)))))))

pub reopens : {D : Type 0} {g : Ghosts D} (old : Held (FileStore D g)) (files : Files D) → IsSettled (file_state old) → (AreClean g files.log files.db → IsCopied old files) → Reopens old files
reopens old files settled closed again found opened held it =
    let copied = closed found.honest in
    let same : (file_state again).now.trees ≡ (file_state old).now.trees = ap (λ (d : Database). d.trees) opened.0.clean ∙ finds_again old again files closed found ∙ ap (λ (d : Database). d.trees) (sym (settled copied.was_open)) in
    let live = (opened.1 opened.0.is_open).0 in
    let before : IsSound (store_schema it.origin) (file_state old).now.trees = subst (λ s. IsSound s (file_state old).now.trees) it.rows.schema_is it.rows.sound in
    let schema = store_schema_of_trees it.origin (file_state again).now.schema (file_state old).now.trees before (subst (IsSound (file_state again).now.schema) same live) in
    let both : (file_state again).now ≡ (file_state old).now = (λ i. record { schema = (schema ∙ sym it.rows.schema_is) i; trees = same i }) in
    subst (λ (d : Database). IsStoreOf d held) (sym both) it
