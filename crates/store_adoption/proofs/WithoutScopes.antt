-- Rows of version 1 that have passed are those of a database of version 1, and each such database's rows pass.
use Rattle.std.proofs.Common.{◌≡◌, ◌<◌, ℕ, ℤ, pos, List, [], ◌∷◌, map, length, codes, true, refl, sym, ap, ap₂, subst, ◌∙◌}
use Rattle.std.specs.List.{AllByRecursion}
use Rattle.asn.specs.Integer.{binary_value}
use Rattle.asn.specs.NumberLaws.{number_octets}
use Rattle.store_rows.proofs.Laws.{value_back}
use Rattle.sqlite.specs.declared.types.Value.TheVariants.{Null, Int, Blob}
use Rattle.sqlite.specs.Order.{Row, column}
use Rattle.sqlite.specs.Tree.{IsTable}
use Rattle.sqlite.specs.Schema.{Schema}
use Rattle.sqlite.specs.Kind.TheVariants as kind
use Rattle.sqlite.specs.Effect.{Database, IsDatabase}
use Rattle.sqlite_schema.specs.declared.schema.Constraint.TheVariants.{Datatype, NotNull}
use Rattle.sqlite_schema.specs.Rules.{has_computed, passes}
use Rattle.sqlite_trees.specs.declared.store.Shape.TheVariants.{Table}
use Rattle.sqlite_trees.specs.View.{IsShaped}
use Rattle.store_sql.specs.Tables.{version_1_schema, meta_table, issuers_table, ocsp_table, crls_table, entries_table}
use Rattle.store_rows.specs.Contents.{IssuerRow, SingleRow, issuer_row, single_row}
use Rattle.store_rows.specs.Holding.{HasRoom, HasByte, IsSaid, IsNumbered, next_id}
use Rattle.store_adoption.specs.Version1.{UnscopedCrl, UnscopedEntry, UnscopedEntryRow, UnscopedContents, unscoped_crl_row, unscoped_entry_row, HoldsVersion1, AreUnscopedInForm, IsVersion1, AreUnscopedLists, HasLists, held_in_version_1}
use Rattle.store_adoption.specs.Cells.{cell_natural, cell_octets, cell_integer, IsVersionCells, IsIssuerCells, IsSingleCells, IsUnscopedCrlCells, IsUnscopedEntryCells, unscoped_crl_in, unscoped_entry_in, next_after}
use Rattle.store_adoption.specs.Inspects.{TablesAreInOrder, InOrderOfVersion1, HasVersion, HasIssuers, HasNext, HasUnder, HasIds, ShowsLists, version_cells, issuer_cells, single_cells, unscoped_crl_cells, unscoped_entry_cells}
use Rattle.store_adoption.proofs.Typed.{IsKeyed, HasId, AreOf, keyed_rows, rows_with_id}
use Rattle.store_adoption.proofs.Decoded.{all_is, all_read, all_shown, canonical, natural_back, issuer_in, single_in, reason_fits}
use Rattle.store_adoption.proofs.Adopting.{Spec, version_spec, issuer_spec, single_spec, IsRead, read_issuer, read_single, version_is, map_map, rises, rise_nat, next_same, few_statuses, few_reasons, told, next_back, numbered, rise_pos, is_table, all_ints, not_version_1}
use Rattle.store_adoption.proofs.Placed.{in_order_before}

abbrev crl_spec : Spec
crl_spec = (codes "number", kind.Blob) ∷ (codes "since", kind.Integer) ∷ (codes "until", kind.Integer) ∷ []

abbrev entry_spec : Spec
entry_spec = (codes "issuer", kind.Integer) ∷ (codes "serial", kind.Blob) ∷ (codes "reason", kind.Integer) ∷ []

-- the rows of each table have the values that its columns say
record AreTyped (db : Database) : Type 0 where
  versions : AllByRecursion (HasId version_spec) (db.trees 0)
  issuers : AllByRecursion (HasId issuer_spec) (db.trees 1)
  singles : AllByRecursion (IsKeyed single_spec) (db.trees 3)
  crls : AllByRecursion (HasId crl_spec) (db.trees 5)
  entries : AllByRecursion (IsKeyed entry_spec) (db.trees 6)

typed : (db : Database) → db.schema ≡ version_1_schema → IsDatabase db → InOrderOfVersion1 db → AreTyped db
typed db has sound o =
    let kinds = subst (λ (s : Schema). AllByRecursion (λ t. AllByRecursion (λ row. passes Datatype s db.trees t row ≡ true) (db.trees t.tree)) s.tables) has (sound.obeys.rules Datatype) in
    let some = subst (λ (s : Schema). AllByRecursion (λ t. AllByRecursion (λ row. passes NotNull s db.trees t row ≡ true) (db.trees t.tree)) s.tables) has (sound.obeys.rules NotNull) in
    record {
      versions = rows_with_id (codes "id") (codes "version", kind.Integer) [] (has_computed (meta_table 0)) (db.trees 0) o.versions.1 kinds.0 some.0;
      issuers = rows_with_id (codes "id") (codes "name", kind.Blob) ((codes "spki", kind.Blob) ∷ []) (has_computed (issuers_table 1)) (db.trees 1) o.issuers.1 kinds.1.0 some.1.0;
      singles = keyed_rows single_spec (has_computed (ocsp_table 3)) (db.trees 3) o.singles.1 kinds.1.1.0 some.1.1.0;
      crls = rows_with_id (codes "issuer") (codes "number", kind.Blob) ((codes "since", kind.Integer) ∷ (codes "until", kind.Integer) ∷ []) (has_computed (crls_table 5)) (db.trees 5) o.crls.1 kinds.1.1.1.0 some.1.1.1.0;
      entries = keyed_rows entry_spec (has_computed (entries_table 6)) (db.trees 6) o.entries.1 kinds.1.1.1.1.0 some.1.1.1.1.0;
    }

-- ---- row by row

abbrev stored_crl : Row → UnscopedCrl
stored_crl row = unscoped_crl_in (unscoped_crl_cells row)

abbrev stored_entry : Row → UnscopedEntryRow
stored_entry row = record { id = cell_integer (column row 0); entry = unscoped_entry_in (unscoped_entry_cells row) }

crl_is : (next : ℕ) (id : ℤ) (cells : Row) → AreOf (kind.Blob ∷ kind.Integer ∷ kind.Integer ∷ []) cells → IsUnscopedCrlCells next (unscoped_crl_cells (Int id ∷ Null ∷ cells)) → Int id ∷ Null ∷ cells ≡ unscoped_crl_row (stored_crl (Int id ∷ Null ∷ cells))
crl_is next id cells are h =
    let c = λ (n : ℕ). column cells n in
    let number = ap cell_octets h.1.0.0 in
    ap₂ (λ v vs. v ∷ Null ∷ vs) h.0.0 (canonical (kind.Blob ∷ kind.Integer ∷ kind.Integer ∷ []) cells are ∙ (λ i. Blob (number i) ∷ Int (cell_integer (c 1)) ∷ Int (cell_integer (c 2)) ∷ []))

entry_is : (next : ℕ) (id : ℤ) (cells : Row) → AreOf (kind.Integer ∷ kind.Blob ∷ kind.Integer ∷ []) cells → IsUnscopedEntryCells next (unscoped_entry_cells (Int id ∷ cells)) → Int id ∷ cells ≡ unscoped_entry_row (stored_entry (Int id ∷ cells))
entry_is next id cells are h =
    let c = λ (n : ℕ). column cells n in
    let issuer = natural_back next (c 0) h.0 in
    let reason = natural_back 256 (c 2) h.2 in
    ap (λ vs. Int id ∷ vs) (canonical (kind.Integer ∷ kind.Blob ∷ kind.Integer ∷ []) cells are ∙ (λ i. Int (issuer i) ∷ Blob (cell_octets (c 1)) ∷ Int (reason i) ∷ []))

read_crl : (next : ℕ) → IsRead (HasId crl_spec) (IsUnscopedCrlCells next) unscoped_crl_cells unscoped_crl_row stored_crl
read_crl next r h cells = h.row_is ∙ crl_is next h.id h.cells h.are (subst (λ row. IsUnscopedCrlCells next (unscoped_crl_cells row)) h.row_is cells) ∙ ap (λ row. unscoped_crl_row (stored_crl row)) (sym h.row_is)

read_entry : (next : ℕ) → IsRead (IsKeyed entry_spec) (IsUnscopedEntryCells next) unscoped_entry_cells unscoped_entry_row stored_entry
read_entry next r h cells = h.row_is ∙ entry_is next h.id h.cells h.are (subst (λ row. IsUnscopedEntryCells next (unscoped_entry_cells row)) h.row_is cells) ∙ ap (λ row. unscoped_entry_row (stored_entry row)) (sym h.row_is)

-- ---- what is read of the rows of a list, and of an entry, are these

crl_back : (x : UnscopedCrl) → IsNumbered x.head → stored_crl (unscoped_crl_row x) ≡ x
crl_back x low = let back : binary_value (number_octets 20 x.head.number) ≡ x.head.number = value_back 20 x.head.number low in
    λ i. record { issuer = x.issuer; head = record { number = back i; window = x.head.window } }

crls_back : (next : ℕ) (xs : List UnscopedCrl) → AllByRecursion (λ x. (x.issuer < next) × IsNumbered x.head) xs → map stored_crl (map unscoped_crl_row xs) ≡ xs
crls_back next [] h = refl
crls_back next (x ∷ xs) h = ap₂ (λ a b. a ∷ b) (crl_back x h.0.1) (crls_back next xs h.1)

entries_back : (xs : List UnscopedEntryRow) → map (λ (r : Row). unscoped_entry_in (unscoped_entry_cells r)) (map unscoped_entry_row xs) ≡ map (λ (x : UnscopedEntryRow). x.entry) xs
entries_back [] = refl
entries_back (x ∷ xs) = ap (λ more. x.entry ∷ more) (entries_back xs)

shown_lists : (db : Database) (shown_crls : List UnscopedCrl) (shown_entries : List UnscopedEntry) (it : UnscopedContents) → HoldsVersion1 db it → AreUnscopedInForm it → ShowsLists shown_crls shown_entries db → AreUnscopedLists shown_crls shown_entries it
shown_lists db shown_crls shown_entries it rows form shows = (
  sym (shows.0 ∙ map_map unscoped_crl_in unscoped_crl_cells (db.trees 5) ∙ ap (map stored_crl) rows.crls ∙ crls_back (next_id it.issuers) it.crls form.crls),
  sym (shows.1 ∙ map_map unscoped_entry_in unscoped_entry_cells (db.trees 6) ∙ ap (map (λ (r : Row). unscoped_entry_in (unscoped_entry_cells r))) rows.entries ∙ entries_back it.entries),
)

-- ---- all rows

pub lists_of : (db : Database) (next : ℕ) (shown_crls : List UnscopedCrl) (shown_entries : List UnscopedEntry) → db.schema ≡ version_1_schema → IsDatabase db → TablesAreInOrder db → (HasIds 1) next db → HasUnder next db → ShowsLists shown_crls shown_entries db
    → HasLists shown_crls shown_entries db
lists_of db next shown_crls shown_entries has sound ordered ids under shows =
    let o = in_order_before db has ordered in
    let t = typed db has sound o in
    let issuers = map issuer_in (db.trees 1) in
    let crls = map stored_crl (db.trees 5) in
    let singles = map single_in (db.trees 3) in
    let entries = map stored_entry (db.trees 6) in
    let it : UnscopedContents = record { issuers = issuers; crls = crls; entries = entries; singles = singles } in
    let last : next ≡ next_id issuers = sym ids.2 ∙ next_same (db.trees 1) in
    let issuers_are = all_is (HasId issuer_spec) IsIssuerCells issuer_cells issuer_row issuer_in read_issuer (db.trees 1) t.issuers ids.1 in
    let crls_are = all_is (HasId crl_spec) (IsUnscopedCrlCells next) unscoped_crl_cells unscoped_crl_row stored_crl (read_crl next) (db.trees 5) t.crls under.1.0 in
    let singles_are = all_is (IsKeyed single_spec) (IsSingleCells next) single_cells single_row single_in (read_single next) (db.trees 3) t.singles under.0 in
    let entries_are = all_is (IsKeyed entry_spec) (IsUnscopedEntryCells next) unscoped_entry_cells unscoped_entry_row stored_entry (read_entry next) (db.trees 6) t.entries under.1.1 in
    record {
      version_1 = (
        held_in_version_1 it,
        record {
          contents = it;
          rows = record {
            schema_is = has;
            sound = sound;
            version = version_is 1 (db.trees 0) t.versions ids.0.0 ids.0.1;
            issuers = issuers_are;
            singles = singles_are;
            crls = crls_are;
            entries = entries_are;
            issuers_rise = rise_nat (λ (x : IssuerRow). x.id) issuers (rises issuer_row (λ (x : IssuerRow). pos x.id) (λ x. refl) issuers (subst IsTable issuers_are o.issuers.0));
            singles_rise = rises single_row (λ (x : SingleRow). x.id) (λ x. refl) singles (subst IsTable singles_are o.singles.0);
            crls_rise = rise_nat (λ (x : UnscopedCrl). x.issuer) crls (rises unscoped_crl_row (λ (x : UnscopedCrl). pos x.issuer) (λ x. refl) crls (subst IsTable crls_are o.crls.0));
            entries_rise = rises unscoped_entry_row (λ (x : UnscopedEntryRow). x.id) (λ x. refl) entries (subst IsTable entries_are o.entries.0);
          };
          form = record {
            ids = all_read IsIssuerCells _ issuer_cells issuer_in (λ r h. h.1) (db.trees 1) ids.1;
            crls = all_read (IsUnscopedCrlCells next) _ unscoped_crl_cells stored_crl (λ r h. (subst (λ n. cell_natural (column r 0) < n) last h.0.1, h.1.0.1)) (db.trees 5) under.1.0;
            entries = all_read (IsUnscopedEntryCells next) _ unscoped_entry_cells stored_entry (λ r h. (subst (λ n. cell_natural (column r 1) < n) last h.0.1, h.2.1)) (db.trees 6) under.1.1;
            singles = all_read (IsSingleCells next) _ single_cells single_in (λ r h. (subst (λ n. cell_natural (column r 1) < n) last h.0.1, reason_fits (cell_natural (column r 8)) (cell_natural (column r 9)) h.2.1)) (db.trees 3) under.0;
          };
          held_is = refl;
        },
      );
      lists = λ other rows form. shown_lists db shown_crls shown_entries other rows form shows;
    }

-- ---- and back

pub ids_of : (db : Database) → IsVersion1 db → HasVersion 1 db × HasIssuers db
ids_of db it =
    let s = it.1 in
    let r = s.rows in (
      subst (λ rows. AllByRecursion (IsVersionCells 1) (map version_cells rows) × (length (map version_cells rows) ≡ 1)) (sym r.version) (((refl, refl), tt), refl),
      subst (λ rows. AllByRecursion IsIssuerCells (map issuer_cells rows)) (sym r.issuers) (all_shown (λ (x : IssuerRow). HasRoom x.id) IsIssuerCells issuer_row issuer_cells (λ x room. (refl, room)) s.contents.issuers s.form.ids),
    )

pub under_of : (db : Database) (next : ℕ) → IsVersion1 db → HasNext next db → HasUnder next db
under_of db next it so =
    let s = it.1 in
    let r = s.rows in
    let next_is : next_id s.contents.issuers ≡ next = next_back s.contents.issuers ∙ ap (λ rows. next_after (map issuer_cells rows)) (sym r.issuers) ∙ so in (
      subst (λ rows. AllByRecursion (IsSingleCells next) (map single_cells rows)) (sym r.singles)
          (all_shown (λ (x : SingleRow). (x.issuer < next_id s.contents.issuers) × IsSaid x.fact) (IsSingleCells next) single_row single_cells
          (λ x h. ((refl, subst (λ n. x.issuer < n) next_is h.0), (refl, few_statuses x.fact.status), (refl, few_reasons x.fact.status h.1), told x.fact.status)) s.contents.singles s.form.singles),
      (
        subst (λ rows. AllByRecursion (IsUnscopedCrlCells next) (map unscoped_crl_cells rows)) (sym r.crls)
            (all_shown (λ (x : UnscopedCrl). (x.issuer < next_id s.contents.issuers) × IsNumbered x.head) (IsUnscopedCrlCells next) unscoped_crl_row unscoped_crl_cells
            (λ x h. ((refl, subst (λ n. x.issuer < n) next_is h.0), (numbered x.head.number h.1, refl, refl))) s.contents.crls s.form.crls),
        subst (λ rows. AllByRecursion (IsUnscopedEntryCells next) (map unscoped_entry_cells rows)) (sym r.entries)
            (all_shown (λ (x : UnscopedEntryRow). (x.entry.issuer < next_id s.contents.issuers) × HasByte x.entry.listed) (IsUnscopedEntryCells next) unscoped_entry_row unscoped_entry_cells
            (λ x h. ((refl, subst (λ n. x.entry.issuer < n) next_is h.0), refl, (refl, h.1))) s.contents.entries s.form.entries),
      ),
    )

-- ---- the rows stand in the order of their ids

pub order_of_version_1 : (db : Database) → IsVersion1 db → TablesAreInOrder db
order_of_version_1 db it = record {
  version_1 = λ has.
      let s = it.1 in
      let r = s.rows in
      record {
        versions = subst (λ rows. IsShaped Table rows) (sym r.version) ((tt, tt), (refl, tt));
        issuers = subst (λ rows. IsShaped Table rows) (sym r.issuers) (is_table issuer_row (λ (x : IssuerRow). pos x.id) (λ x. refl) s.contents.issuers (rise_pos (λ (x : IssuerRow). x.id) s.contents.issuers r.issuers_rise), all_ints issuer_row (λ (x : IssuerRow). pos x.id) (λ x. refl) s.contents.issuers);
        singles = subst (λ rows. IsShaped Table rows) (sym r.singles) (is_table single_row (λ (x : SingleRow). x.id) (λ x. refl) s.contents.singles r.singles_rise, all_ints single_row (λ (x : SingleRow). x.id) (λ x. refl) s.contents.singles);
        crls = subst (λ rows. IsShaped Table rows) (sym r.crls) (is_table unscoped_crl_row (λ (x : UnscopedCrl). pos x.issuer) (λ x. refl) s.contents.crls (rise_pos (λ (x : UnscopedCrl). x.issuer) s.contents.crls r.crls_rise), all_ints unscoped_crl_row (λ (x : UnscopedCrl). pos x.issuer) (λ x. refl) s.contents.crls);
        entries = subst (λ rows. IsShaped Table rows) (sym r.entries) (is_table unscoped_entry_row (λ (x : UnscopedEntryRow). x.id) (λ x. refl) s.contents.entries r.entries_rise, all_ints unscoped_entry_row (λ (x : UnscopedEntryRow). x.id) (λ x. refl) s.contents.entries);
      };
  version_2 = λ origin has. absurd (not_version_1 origin (sym has ∙ it.1.rows.schema_is));
}
