-- A database whose rows have passed is a store, and each store's rows pass.
use Rattle.std.proofs.Common.{◌≡◌, ◌+◌, ◌<◌, ◌^◌, ℕ, ℤ, pos, ◌<ℤ◌, ◌⊎◌, inl, inr, List, [], ◌∷◌, map, fold, length, None, Less, true, codes, refl, sym, ap, subst, subst₂, ◌∙◌, arith, IsTrue}
use Rattle.std.proofs.lemmas.Int.{ints}
use Rattle.std.specs.Ordering.{int_cmp}
use Rattle.std.specs.List.{AllByRecursion}
use Rattle.asn.specs.Integer.{binary_value}
use Rattle.asn.specs.NumberLaws.{number_octets}
use Rattle.sqlite_value.proofs.OrderLemmas.{value_cmp-Int}
use Rattle.sqlite_keyed.proofs.KeyedLemmas.{lt_from_Less}
use Rattle.sqlite.specs.declared.types.Value.TheVariants.{Null, Int, Blob}
use Rattle.sqlite.specs.Order.{Row, column, value_cmp}
use Rattle.sqlite.specs.Tree.{IsTable, IsAscending, rowid}
use Rattle.sqlite.specs.Schema.{Schema}
use Rattle.sqlite.specs.Kind.{Kind}
use Rattle.sqlite.specs.Kind.TheVariants.{Integer, Blob as Octets}
use Rattle.sqlite.specs.Effect.{Database, IsDatabase}
use Rattle.sqlite_schema.specs.declared.schema.Constraint.TheVariants.{Datatype, NotNull}
use Rattle.sqlite_schema.specs.Rules.{has_computed, passes}
use Rattle.store_sql.specs.declared.origin.Origin.{Origin}
use Rattle.store_sql.specs.declared.origin.Origin.TheVariants.{Made, Migrated}
use Rattle.store_sql.specs.Tables.{version_1_schema, store_schema, crls_tree, entries_tree, meta_table, issuers_table, ocsp_table, scoped_crls_table, scoped_entries_table}
use Rattle.statements_facts.specs.declared.profile.Profile.{Profile}
use Rattle.statements_facts.specs.declared.profile.Profile.TheVariants.{Stated, Wide}
use Rattle.statements_facts.specs.declared.scope.Scope.TheVariants.{All, User, Ca}
use Rattle.statements_facts.specs.declared.single.Status.TheVariants.{Good, Revoked, Unknown}
use Rattle.store_rows.specs.Places.{IsInside}
use Rattle.store_rows.specs.Contents.{head_of, scope_number, status_number, reason_number, IssuerRow, CrlRow, EntryRow, SingleRow, Contents, issuer_row, crl_row, entry_row, single_row, version_number, version_row}
use Rattle.statements_facts.specs.Statement.{Holdings}
use Rattle.store_rows.specs.Holding.{HasReason, HasRoom, HasByte, IsSaid, IsNumbered, next_id}
use Rattle.sqlite_trees.specs.declared.store.Shape.TheVariants.{Table}
use Rattle.sqlite_trees.specs.View.{IsShaped, is_int}
use Rattle.store_sql.proofs.Laws.{less_is}
use Rattle.store_rows.proofs.Laws.{value_back}
use Rattle.store_maps.specs.Held.{IsStoreOf, held_in}
use Rattle.store_adoption.specs.Cells.{cell_natural, HasNumber, IsIssuerCells, IsCrlCells, IsSingleCells, IsEntryCells, IsVersionCells, AreChained, entry_of_row, next_after}
use Rattle.store_adoption.specs.Inspects.{TablesAreInOrder, InOrder, IsStore, IsStoreUnder, HasHeads, HasEntries, HasRows, HasProfile, HasVersionOf, version_cells, issuer_cells, crl_columns, single_cells, entry_cells}
use Rattle.store_adoption.proofs.Chained.{placed_of_chain, chain_of_placed}
use Rattle.store_adoption.proofs.Typed.{IsKeyed, HasId, keyed_rows, rows_with_id}
use Rattle.store_adoption.proofs.Decoded.{all_is, all_read, all_shown, issuer_in, issuer_is, crl_in, crl_is, single_in, single_is, entry_is, reason_fits}
use Rattle.store_adoption.proofs.Placed.{in_order}

abbrev pub Spec : Type 0
Spec = List (List ℕ × Kind)

abbrev pub version_spec : Spec
version_spec = (codes "version", Integer) ∷ []

abbrev pub issuer_spec : Spec
issuer_spec = (codes "name", Octets) ∷ (codes "spki", Octets) ∷ []

abbrev pub single_spec : Spec
single_spec = (codes "issuer", Integer) ∷ (codes "name_hash", Octets) ∷ (codes "serial", Octets) ∷ (codes "this_update", Integer) ∷ (codes "produced_at", Integer) ∷ (codes "since", Integer) ∷ (codes "until", Integer) ∷ (codes "status", Integer) ∷ (codes "reason", Integer) ∷ []

abbrev crl_spec : Spec
crl_spec = (codes "issuer", Integer) ∷ (codes "scope", Integer) ∷ (codes "number", Octets) ∷ (codes "since", Integer) ∷ (codes "until", Integer) ∷ []

abbrev entry_spec : Spec
entry_spec = (codes "issuer", Integer) ∷ (codes "scope", Integer) ∷ (codes "serial", Octets) ∷ (codes "reason", Integer) ∷ []

-- the rows of each table have the values that its columns say
record AreTyped (origin : Origin) (db : Database) : Type 0 where
  versions : AllByRecursion (HasId version_spec) (db.trees 0)
  issuers : AllByRecursion (HasId issuer_spec) (db.trees 1)
  singles : AllByRecursion (IsKeyed single_spec) (db.trees 3)
  crls : AllByRecursion (IsKeyed crl_spec) (db.trees (crls_tree origin))
  entries : AllByRecursion (HasId entry_spec) (db.trees (entries_tree origin))

typed : (origin : Origin) (db : Database) → db.schema ≡ store_schema origin → IsDatabase db → InOrder origin db → AreTyped origin db
typed Made db has sound o =
    let kinds = subst (λ (s : Schema). AllByRecursion (λ t. AllByRecursion (λ row. passes Datatype s db.trees t row ≡ true) (db.trees t.tree)) s.tables) has (sound.obeys.rules Datatype) in
    let some = subst (λ (s : Schema). AllByRecursion (λ t. AllByRecursion (λ row. passes NotNull s db.trees t row ≡ true) (db.trees t.tree)) s.tables) has (sound.obeys.rules NotNull) in
    record {
      versions = rows_with_id (codes "id") (codes "version", Integer) [] (has_computed (meta_table 0)) (db.trees 0) o.versions.1 kinds.0 some.0;
      issuers = rows_with_id (codes "id") (codes "name", Octets) ((codes "spki", Octets) ∷ []) (has_computed (issuers_table 1)) (db.trees 1) o.issuers.1 kinds.1.0 some.1.0;
      singles = keyed_rows single_spec (has_computed (ocsp_table 3)) (db.trees 3) o.singles.1 kinds.1.1.0 some.1.1.0;
      crls = keyed_rows crl_spec (has_computed (scoped_crls_table 5)) (db.trees 5) o.crls.1 kinds.1.1.1.0 some.1.1.1.0;
      entries = rows_with_id (codes "id") (codes "issuer", Integer) ((codes "scope", Integer) ∷ (codes "serial", Octets) ∷ (codes "reason", Integer) ∷ []) (has_computed (scoped_entries_table 7)) (db.trees 7) o.entries.1 kinds.1.1.1.1.0 some.1.1.1.1.0;
    }
typed Migrated db has sound o =
    let kinds = subst (λ (s : Schema). AllByRecursion (λ t. AllByRecursion (λ row. passes Datatype s db.trees t row ≡ true) (db.trees t.tree)) s.tables) has (sound.obeys.rules Datatype) in
    let some = subst (λ (s : Schema). AllByRecursion (λ t. AllByRecursion (λ row. passes NotNull s db.trees t row ≡ true) (db.trees t.tree)) s.tables) has (sound.obeys.rules NotNull) in
    record {
      versions = rows_with_id (codes "id") (codes "version", Integer) [] (has_computed (meta_table 0)) (db.trees 0) o.versions.1 kinds.0 some.0;
      issuers = rows_with_id (codes "id") (codes "name", Octets) ((codes "spki", Octets) ∷ []) (has_computed (issuers_table 1)) (db.trees 1) o.issuers.1 kinds.1.0 some.1.0;
      singles = keyed_rows single_spec (has_computed (ocsp_table 3)) (db.trees 3) o.singles.1 kinds.1.1.0 some.1.1.0;
      crls = keyed_rows crl_spec (has_computed (scoped_crls_table 8)) (db.trees 8) o.crls.1 kinds.1.1.1.1.1.0 some.1.1.1.1.1.0;
      entries = rows_with_id (codes "id") (codes "issuer", Integer) ((codes "scope", Integer) ∷ (codes "serial", Octets) ∷ (codes "reason", Integer) ∷ []) (has_computed (scoped_entries_table 10)) (db.trees 10) o.entries.1 kinds.1.1.1.1.1.1.0 some.1.1.1.1.1.1.0;
    }

-- ---- row by row

module _ (Form Cells : Row → Type 0) where
  abbrev pub IsRead : {X : Type 0} → (Row → Row) → (X → Row) → (Row → X) → Type 0
  IsRead show row_of read = (r : Row) → Form r → Cells (show r) → r ≡ row_of (read r)

pub read_issuer : IsRead (HasId issuer_spec) IsIssuerCells issuer_cells issuer_row issuer_in
read_issuer r h cells = h.row_is ∙ issuer_is h.id h.cells h.are (subst (λ row. IsIssuerCells (issuer_cells row)) h.row_is cells) ∙ ap (λ row. issuer_row (issuer_in row)) (sym h.row_is)

read_crl : (next : ℕ) → IsRead (IsKeyed crl_spec) (IsCrlCells next) crl_columns crl_row crl_in
read_crl next r h cells = h.row_is ∙ crl_is next h.id h.cells h.are (subst (λ row. IsCrlCells next (crl_columns row)) h.row_is cells) ∙ ap (λ row. crl_row (crl_in row)) (sym h.row_is)

pub read_single : (next : ℕ) → IsRead (IsKeyed single_spec) (IsSingleCells next) single_cells single_row single_in
read_single next r h cells = h.row_is ∙ single_is next h.id h.cells h.are (subst (λ row. IsSingleCells next (single_cells row)) h.row_is cells) ∙ ap (λ row. single_row (single_in row)) (sym h.row_is)

abbrev stored_entry : Row → EntryRow
stored_entry row = entry_of_row (entry_cells row)

read_entry : IsRead (HasId entry_spec) IsEntryCells entry_cells entry_row stored_entry
read_entry r h cells = h.row_is ∙ entry_is h.id h.cells h.are (subst (λ row. IsEntryCells (entry_cells row)) h.row_is cells) ∙ ap (λ row. entry_row (stored_entry row)) (sym h.row_is)

pub version_is : (version : ℕ) (rows : List Row) → AllByRecursion (HasId version_spec) rows → AllByRecursion (IsVersionCells version) (map version_cells rows) → length (map version_cells rows) ≡ 1 → rows ≡ (Int (pos 1) ∷ Null ∷ Int (pos version) ∷ []) ∷ []
version_is version [] forms cells one = absurd (omega (arith, one))
version_is version (r ∷ s ∷ more) forms cells one = absurd (omega (arith, one))
version_is version (r ∷ []) forms cells one = ap (λ row. row ∷ []) (alone forms.0.id forms.0.cells r forms.0.row_is forms.0.are cells.0)
  where
    alone : (id : ℤ) (cells : Row) (r : Row) → r ≡ Int id ∷ Null ∷ cells → Rattle.store_adoption.proofs.Typed.AreOf (Integer ∷ []) cells → IsVersionCells version (version_cells r) → r ≡ Int (pos 1) ∷ Null ∷ Int (pos version) ∷ []
    alone id [] r is are h = absurd are
    alone id (v ∷ w ∷ vs) r is are h = absurd are.1
    alone id (v ∷ []) r is are h =
        let first = subst (λ row. column row 0 ≡ Int (pos 1)) is h.0 in
        let second = subst (λ row. column row 2 ≡ Int (pos version)) is h.1 in
        is ∙ (λ i. first i ∷ Null ∷ second i ∷ [])

pub map_map : {X Y Z : Type 0} (f : Y → Z) (g : X → Y) (xs : List X) → map f (map g xs) ≡ map (λ x. f (g x)) xs
map_map f g [] = refl
map_map f g (x ∷ xs) = ap (λ more. f (g x) ∷ more) (map_map f g xs)

pub map_itself : {X : Type 0} (xs : List X) → map (λ x. x) xs ≡ xs
map_itself [] = refl
map_itself (x ∷ xs) = ap (λ more. x ∷ more) (map_itself xs)

-- ---- ids rise

less_of : (m n : ℤ) → value_cmp (Int m) (Int n) ≡ Less → m <ℤ n
less_of m n h = let c : int_cmp m n ≡ Less = sym (value_cmp-Int m n) ∙ h in lt_from_Less m n c

module _ {X : Type 0} (row : X → Row) (id : X → ℤ) (keyed : (x : X) → rowid (row x) ≡ Int (id x)) where
  all_low : (x : X) (xs : List X) → AllByRecursion (λ r. value_cmp (rowid (row x)) (rowid r) ≡ Less) (map row xs) → AllByRecursion (λ y. id x <ℤ id y) xs
  all_low x [] h = tt
  all_low x (y ∷ ys) h = (less_of (id x) (id y) (subst₂ (λ a b. value_cmp a b ≡ Less) (keyed x) (keyed y) h.0), all_low x ys h.1)

  pub rises : (xs : List X) → IsTable (map row xs) → IsAscending (λ a b. id a <ℤ id b) xs
  rises [] h = tt
  rises (x ∷ xs) h = (all_low x xs h.0, rises xs h.1)

low_nat : (a b : ℕ) → pos a <ℤ pos b → a < b
low_nat a b h = grind (arith, ints)

module _ {X : Type 0} (key : X → ℕ) where
  all_nat : (x : X) (xs : List X) → AllByRecursion (λ y. pos (key x) <ℤ pos (key y)) xs → AllByRecursion (λ y. key x < key y) xs
  all_nat x [] h = tt
  all_nat x (y ∷ ys) h = (low_nat (key x) (key y) h.0, all_nat x ys h.1)

  pub rise_nat : (xs : List X) → IsAscending (λ a b. pos (key a) <ℤ pos (key b)) xs → IsAscending (λ a b. key a < key b) xs
  rise_nat [] h = tt
  rise_nat (x ∷ xs) h = (all_nat x xs h.0, rise_nat xs h.1)

pub next_same : (rows : List Row) → next_after (map issuer_cells rows) ≡ next_id (map issuer_in rows)
next_same rows = go 1 rows
  where
    go : (start : ℕ) (rows : List Row) → fold (λ next row. cell_natural (column row 0) + 1) start (map issuer_cells rows) ≡ fold (λ id row. row.id + 1) start (map issuer_in rows)
    go start [] = refl
    go start (r ∷ rs) = go (cell_natural (column r 0) + 1) rs

pub store_of : (profile : Profile) (origin : Origin) (db : Database) → db.schema ≡ store_schema origin → IsDatabase db → TablesAreInOrder db → HasVersionOf profile db → HasRows origin db → IsStoreUnder profile db
store_of profile origin db has sound ordered version (heads, entries) =
    let o = in_order origin db has ordered in
    let t = typed origin db has sound o in
    let next = next_after (map issuer_cells (db.trees 1)) in
    let issuers = map issuer_in (db.trees 1) in
    let crls = map crl_in (db.trees (crls_tree origin)) in
    let singles = map single_in (db.trees 3) in
    let placed = map stored_entry (db.trees (entries_tree origin)) in
    let it : Contents = record { profile = profile; issuers = issuers; crls = crls; entries = placed; singles = singles } in
    let issuers_are = all_is (HasId issuer_spec) IsIssuerCells issuer_cells issuer_row issuer_in read_issuer (db.trees 1) t.issuers heads.issuers in
    let crls_are = all_is (IsKeyed crl_spec) (IsCrlCells next) crl_columns crl_row crl_in (read_crl next) (db.trees (crls_tree origin)) t.crls heads.crls in
    let singles_are = all_is (IsKeyed single_spec) (IsSingleCells next) single_cells single_row single_in (read_single next) (db.trees 3) t.singles heads.singles in
    let entries_are = all_is (HasId entry_spec) IsEntryCells entry_cells entry_row stored_entry read_entry (db.trees (entries_tree origin)) t.entries entries.0 in (
      held_in it,
      record {
        origin = origin;
        contents = it;
        rows = record {
          schema_is = has;
          sound = sound;
          version = version_is (version_number profile) (db.trees 0) t.versions version.0 version.1;
          issuers = issuers_are;
          singles = singles_are;
          crls = crls_are;
          entries = entries_are;
          issuers_rise = rise_nat (λ (x : IssuerRow). x.id) issuers (rises issuer_row (λ (x : IssuerRow). pos x.id) (λ x. refl) issuers (subst IsTable issuers_are o.issuers.0));
          singles_rise = rises single_row (λ (x : SingleRow). x.id) (λ x. refl) singles (subst IsTable singles_are o.singles.0);
          crls_rise = rises crl_row (λ (x : CrlRow). x.id) (λ x. refl) crls (subst IsTable crls_are o.crls.0);
          entries_rise = rise_nat (λ (x : EntryRow). x.place) placed (rises entry_row (λ (x : EntryRow). pos x.place) (λ x. refl) placed (subst IsTable entries_are o.entries.0));
        };
        form = record {
          ids = all_read IsIssuerCells _ issuer_cells issuer_in (λ r h. h.1) (db.trees 1) heads.issuers;
          numbers = all_read (IsCrlCells next) _ crl_columns crl_in (λ r h. h.2.1) (db.trees (crls_tree origin)) heads.crls;
          reasons = all_read IsEntryCells _ entry_cells stored_entry (λ r h. h.4.1) (db.trees (entries_tree origin)) entries.0;
          statuses = all_read (IsSingleCells next) _ single_cells single_in (λ r h. reason_fits (cell_natural (column r 8)) (cell_natural (column r 9)) h.2.1) (db.trees 3) heads.singles;
          placed = placed_of_chain placed (subst (AreChained None) (map_map entry_of_row entry_cells (db.trees (entries_tree origin))) entries.1);
        };
        owned = record {
          crls = all_read (IsCrlCells next) _ crl_columns crl_in (λ r h. subst (λ n. cell_natural (column r 1) < n) (next_same (db.trees 1)) h.0.1) (db.trees (crls_tree origin)) heads.crls;
          singles = all_read (IsSingleCells next) _ single_cells single_in (λ r h. subst (λ n. cell_natural (column r 1) < n) (next_same (db.trees 1)) h.0.1) (db.trees 3) heads.singles;
        };
        held_is = refl;
      },
      refl,
    )

-- ---- and back

pub one_origin : (a b : Origin) → store_schema a ≡ store_schema b → a ≡ b
one_origin Made Made same = refl
one_origin Migrated Migrated same = refl
one_origin Made Migrated same = absurd (let sizes : length (store_schema Made).tables ≡ length (store_schema Migrated).tables = ap (λ (s : Schema). length s.tables) same in omega (arith, sizes))
one_origin Migrated Made same = absurd (let sizes : length (store_schema Migrated).tables ≡ length (store_schema Made).tables = ap (λ (s : Schema). length s.tables) same in omega (arith, sizes))

pub few_scopes : (scope : _) → scope_number scope < 3
few_scopes All = omega arith
few_scopes User = omega arith
few_scopes Ca = omega arith

pub few_statuses : (status : _) → status_number status < 3
few_statuses Good = omega arith
few_statuses (Revoked reason) = omega arith
few_statuses Unknown = omega arith

pub few_reasons : (status : _) → HasReason status → reason_number status < 256
few_reasons Good fits = omega arith
few_reasons (Revoked reason) fits = fits
few_reasons Unknown fits = omega arith

pub told : (status : _) → (status_number status ≡ 1) ⊎ (reason_number status ≡ 0)
told Good = inr refl
told (Revoked reason) = inl refl
told Unknown = inr refl

pub both_all : {X : Type 0} (P Q : X → Type 0) (xs : List X) → AllByRecursion P xs → AllByRecursion Q xs → AllByRecursion (λ x. P x × Q x) xs
both_all P Q [] p q = tt
both_all P Q (x ∷ xs) p q = ((p.0, q.0), both_all P Q xs p.1 q.1)

pub next_back : (xs : List IssuerRow) → next_id xs ≡ next_after (map issuer_cells (map issuer_row xs))
next_back xs = go 1 xs
  where
    go : (start : ℕ) (xs : List IssuerRow) → fold (λ id row. row.id + 1) start xs ≡ fold (λ next row. cell_natural (column row 0) + 1) start (map issuer_cells (map issuer_row xs))
    go start [] = refl
    go start (x ∷ xs) = go (x.id + 1) xs

pub numbered : (number : ℕ) → number < 2 ^ 160 → HasNumber (Blob (number_octets 20 number))
numbered number low = let back : binary_value (number_octets 20 number) ≡ number = value_back 20 number low in (ap (λ n. Blob (number_octets 20 n)) (sym back), omega (arith, back, low))

pub heads_of : (origin : Origin) (db : Database) → db.schema ≡ store_schema origin → IsStore db → HasHeads origin db
heads_of origin db has it =
    let s = it.1 in
    let r = s.rows in
    let same : s.origin ≡ origin = one_origin s.origin origin (sym r.schema_is ∙ has) in
    let next = next_after (map issuer_cells (db.trees 1)) in
    let next_is : next_id s.contents.issuers ≡ next = next_back s.contents.issuers ∙ ap (λ rows. next_after (map issuer_cells rows)) (sym r.issuers) in
    let crls_are : db.trees (crls_tree origin) ≡ map crl_row s.contents.crls = ap (λ o. db.trees (crls_tree o)) (sym same) ∙ r.crls in
    record {
      issuers = subst (λ rows. AllByRecursion IsIssuerCells (map issuer_cells rows)) (sym r.issuers) (all_shown (λ (x : IssuerRow). HasRoom x.id) IsIssuerCells issuer_row issuer_cells (λ x room. (refl, room)) s.contents.issuers s.form.ids);
      crls = subst (λ rows. AllByRecursion (IsCrlCells next) (map crl_columns rows)) (sym crls_are)
          (all_shown (λ (x : CrlRow). IsNumbered (head_of x) × (x.issuer < next_id s.contents.issuers)) (IsCrlCells next) crl_row crl_columns
          (λ x h. ((refl, subst (λ n. x.issuer < n) next_is h.1), (refl, few_scopes x.scope), numbered x.number h.0)) s.contents.crls (both_all _ _ s.contents.crls s.form.numbers s.owned.crls));
      singles = subst (λ rows. AllByRecursion (IsSingleCells next) (map single_cells rows)) (sym r.singles)
          (all_shown (λ (x : SingleRow). IsSaid x.fact × (x.issuer < next_id s.contents.issuers)) (IsSingleCells next) single_row single_cells
          (λ x h. ((refl, subst (λ n. x.issuer < n) next_is h.1), (refl, few_statuses x.fact.status), (refl, few_reasons x.fact.status h.0), told x.fact.status)) s.contents.singles (both_all _ _ s.contents.singles s.form.statuses s.owned.singles));
    }

pub version_of_store : (db : Database) → IsStore db → HasProfile db
version_of_store db it =
    let r = it.1.rows in
    let profile = it.1.contents.profile in
    (profile, subst (λ rows. AllByRecursion (IsVersionCells (version_number profile)) (map version_cells rows) × (length (map version_cells rows) ≡ 1)) (sym r.version) (((refl, refl), tt), refl))

pub entries_of : (origin : Origin) (db : Database) → db.schema ≡ store_schema origin → IsStore db → HasEntries origin db
entries_of origin db has it =
    let s = it.1 in
    let r = s.rows in
    let same : s.origin ≡ origin = one_origin s.origin origin (sym r.schema_is ∙ has) in
    let are : db.trees (entries_tree origin) ≡ map entry_row s.contents.entries = ap (λ o. db.trees (entries_tree o)) (sym same) ∙ r.entries in
    let back : map entry_of_row (map entry_cells (map entry_row s.contents.entries)) ≡ s.contents.entries =
    ap (map entry_of_row) (map_map entry_cells entry_row s.contents.entries) ∙ map_map entry_of_row (λ e. entry_cells (entry_row e)) s.contents.entries ∙ map_itself s.contents.entries in (
      subst (λ rows. AllByRecursion IsEntryCells (map entry_cells rows)) (sym are)
          (all_shown (λ (x : EntryRow). IsInside x × HasByte x.listed) IsEntryCells entry_row entry_cells (λ x h. ((refl, fits x h.0), (refl, h.0.issuer), (refl, h.0.scope), refl, (refl, h.1))) s.contents.entries (both_all _ _ s.contents.entries s.form.placed.inside s.form.reasons)),
      subst (λ rows. AreChained None (map entry_of_row (map entry_cells rows))) (sym are) (subst (AreChained None) (sym back) (chain_of_placed s.contents.entries s.form.placed)),
    )
  where
    fits : (x : EntryRow) → IsInside x → x.place < 18446744073709551616
    fits x i = let a = i.issuer in let b = i.scope in let c = i.high in omega arith

pub rows_of : (origin : Origin) (db : Database) → db.schema ≡ store_schema origin → IsStore db → HasRows origin db
rows_of origin db has it = (heads_of origin db has it, entries_of origin db has it)

-- a database is a store of one profile
numbered_apart : (one other : Profile) → version_number one ≡ version_number other → one ≡ other
numbered_apart Stated Stated same = refl
numbered_apart Wide Wide same = refl
numbered_apart Stated Wide same = absurd (omega (arith, same))
numbered_apart Wide Stated same = absurd (omega (arith, same))

same_number : (one other : ℕ) → (Int (pos 1) ∷ Null ∷ Int (pos one) ∷ []) ∷ [] ≡ (Int (pos 1) ∷ Null ∷ Int (pos other) ∷ []) ∷ [] → one ≡ other
same_number one other rows = cc

pub one_profile : (db : Database) (one other : Holdings) → IsStoreOf db one → IsStoreOf db other → one.profile ≡ other.profile
one_profile db one other a b =
    let rows : version_row a.contents.profile ∷ [] ≡ version_row b.contents.profile ∷ [] = sym a.rows.version ∙ b.rows.version in
    ap (λ (h : Holdings). h.profile) (sym a.held_is)
    ∙ numbered_apart a.contents.profile b.contents.profile (same_number _ _ rows)
    ∙ ap (λ (h : Holdings). h.profile) b.held_is

-- ---- the rows of a store stand in the order of their ids

low_pos : (a b : ℕ) → a < b → pos a <ℤ pos b
low_pos a b h = grind (arith, ints)

module _ {X : Type 0} (key : X → ℕ) where
  all_pos : (x : X) (xs : List X) → AllByRecursion (λ y. key x < key y) xs → AllByRecursion (λ y. pos (key x) <ℤ pos (key y)) xs
  all_pos x [] h = tt
  all_pos x (y ∷ ys) h = (low_pos (key x) (key y) h.0, all_pos x ys h.1)

  pub rise_pos : (xs : List X) → IsAscending (λ a b. key a < key b) xs → IsAscending (λ a b. pos (key a) <ℤ pos (key b)) xs
  rise_pos [] h = tt
  rise_pos (x ∷ xs) h = (all_pos x xs h.0, rise_pos xs h.1)

module _ {X : Type 0} (row : X → Row) (id : X → ℤ) (keyed : (x : X) → rowid (row x) ≡ Int (id x)) where
  all_less : (x : X) (xs : List X) → AllByRecursion (λ y. id x <ℤ id y) xs → AllByRecursion (λ r. value_cmp (rowid (row x)) (rowid r) ≡ Less) (map row xs)
  all_less x [] h = tt
  all_less x (y ∷ ys) h = (subst₂ (λ a b. value_cmp a b ≡ Less) (sym (keyed x)) (sym (keyed y)) (less_is (id x) (id y) h.0), all_less x ys h.1)

  pub is_table : (xs : List X) → IsAscending (λ a b. id a <ℤ id b) xs → IsTable (map row xs)
  is_table [] h = tt
  is_table (x ∷ xs) h = (all_less x xs h.0, is_table xs h.1)

  pub all_ints : (xs : List X) → AllByRecursion (λ r. IsTrue (is_int (rowid r))) (map row xs)
  all_ints [] = tt
  all_ints (x ∷ xs) = (subst (λ v. IsTrue (is_int v)) (sym (keyed x)) refl, all_ints xs)

order_of_origin : (db : Database) → IsStore db → (origin : Origin) → db.schema ≡ store_schema origin → InOrder origin db
order_of_origin db it origin has =
    let s = it.1 in
    let r = s.rows in
    subst (λ o. InOrder o db) (one_origin s.origin origin (sym r.schema_is ∙ has)) (record {
      versions = subst (λ rows. IsShaped Table rows) (sym r.version) ((tt, tt), (refl, tt));
      issuers = subst (λ rows. IsShaped Table rows) (sym r.issuers) (is_table issuer_row (λ (x : IssuerRow). pos x.id) (λ x. refl) s.contents.issuers (rise_pos (λ (x : IssuerRow). x.id) s.contents.issuers r.issuers_rise), all_ints issuer_row (λ (x : IssuerRow). pos x.id) (λ x. refl) s.contents.issuers);
      singles = subst (λ rows. IsShaped Table rows) (sym r.singles) (is_table single_row (λ (x : SingleRow). x.id) (λ x. refl) s.contents.singles r.singles_rise, all_ints single_row (λ (x : SingleRow). x.id) (λ x. refl) s.contents.singles);
      crls = subst (λ rows. IsShaped Table rows) (sym r.crls) (is_table crl_row (λ (x : CrlRow). x.id) (λ x. refl) s.contents.crls r.crls_rise, all_ints crl_row (λ (x : CrlRow). x.id) (λ x. refl) s.contents.crls);
      entries = subst (λ rows. IsShaped Table rows) (sym r.entries) (is_table entry_row (λ (x : EntryRow). pos x.place) (λ x. refl) s.contents.entries (rise_pos (λ (x : EntryRow). x.place) s.contents.entries r.entries_rise), all_ints entry_row (λ (x : EntryRow). pos x.place) (λ x. refl) s.contents.entries);
    })

abbrev width : Schema → ℕ
width s = fold (λ sum t. sum + length t.columns) 0 s.tables

pub not_version_1 : (origin : Origin) → store_schema origin ≡ version_1_schema → ⊥
not_version_1 Made same = let sizes : 24 ≡ 21 = ap width same in omega (arith, sizes)
not_version_1 Migrated same = let sizes : 31 ≡ 21 = ap width same in omega (arith, sizes)

pub order_of_store : (db : Database) → IsStore db → TablesAreInOrder db
order_of_store db it = record {
  version_1 = λ has. absurd (not_version_1 it.1.origin (sym it.1.rows.schema_is ∙ has));
  version_2 = λ origin has. order_of_origin db it origin has;
}
