-- The tables of version 2 beside those of version 1, and the version.
use Rattle.std.proofs.Common.{◌≡◌, ℕ, pos, List, [], ◌∷◌, ◌<◌, None, Ok, refl, ◌∙◌}
use Rattle.std.specs.List.{AllByRecursion}
use Rattle.sqlite.specs.declared.types.Value.TheVariants.{Int}
use Rattle.sqlite.specs.State.{State, ExecutesInside}
use Rattle.statements_facts.specs.declared.scope.Scope.{Scope}
use Rattle.statements_facts.specs.declared.scope.Scope.TheVariants.{All, User, Ca}
use Rattle.statements_facts.specs.Statement.{Holdings}
use Rattle.store_sql.specs.declared.origin.Origin.TheVariants.{Migrated}
use Rattle.store_sql.specs.Texts.{create_scoped_crls, create_scoped_entries, delete_version, insert_version}
use Rattle.store_sql.specs.Tables.{version_1_schema, half_schema, store_schema, scoped_crls_table, scoped_entries_table}
use Rattle.store_sql.proofs.Laws.{Leaves, makes, makes_crls, makes_entries}
use Rattle.store_rows.specs.Contents.{SingleRow}
use Rattle.store_rows.specs.Holding.{IsSaid, next_id}
use Rattle.store_adoption.specs.Version1.{UnscopedCrl, UnscopedEntry, without_lists, unscoped_crl_under, for_all_certificates}
use Rattle.store_taking.specs.Passing.{HasStepped}
use Rattle.store_migration.specs.Moved.{IsOld, HasNewTables, HasMoved}
use Rattle.store_migration.proofs.VersionRow.{row_goes, row_comes, others_kept}

-- ---- the tables

pub tables_made : (old mid new : State) (one two : ℕ) (crls : List UnscopedCrl) (entries : List UnscopedEntry) → ExecutesInside 0 create_scoped_crls [] old mid (Ok one) → ExecutesInside 0 create_scoped_entries [] mid new (Ok two)
    → HasStepped old new (IsOld crls entries) (HasNewTables crls entries)
tables_made old mid new one two crls entries a b = record {
  keeps = record { was_open = λ _. a.1.was_open; committed = λ _. b.1.committed_is ∙ a.1.committed_is };
  mode = rw b.1.mode refl;
  held = λ held old_is.
      let r = old_is.rows in
      let x = makes_crls Migrated in
      let first = makes old mid create_scoped_crls version_1_schema (scoped_crls_table 0) one r.schema_is x.0 x.1 x.2 x.4 refl a.0 in
      let y = makes_entries Migrated in
      let second = makes mid new create_scoped_entries (half_schema Migrated) (scoped_entries_table 0) two (first.schema_is ∙ x.3) y.0 y.1 y.2 y.4 refl b.0 in
      let kept = first.others in
      let still = second.others in
      record {
        it = old_is.it;
        was = old_is.was;
        schema_is = second.schema_is ∙ y.3;
        sound = second.sound;
        version = still.0 ∙ kept.0 ∙ r.version;
        issuers = still.1.0 ∙ kept.1.0 ∙ r.issuers;
        singles = still.1.1.0 ∙ kept.1.1.0 ∙ r.singles;
        no_crls = still.1.1.1.1.1.0 ∙ first.empty;
        no_entries = second.empty;
      };
}

-- ---- the version

all_without : {X : Type 0} (P Q : X → Type 0) (xs : List X) → ((x : X) → P x → Q x) → AllByRecursion P xs → AllByRecursion Q xs
all_without P Q [] leads h = tt
all_without P Q (x ∷ xs) leads h = (leads x h.0, all_without P Q xs leads h.1)

no_list : (entries : List UnscopedEntry) (id : ℕ) (scope : Scope) → None ≡ for_all_certificates scope (unscoped_crl_under [] entries id)
no_list entries id All = refl
no_list entries id User = refl
no_list entries id Ca = refl

pub version_gone : (old new : State) (count : ℕ) (crls : List UnscopedCrl) (entries : List UnscopedEntry) (held : Holdings) → HasNewTables crls entries old.now held → ExecutesInside 0 delete_version (Int (pos 1) ∷ []) old new (Ok count)
    → Leaves (store_schema Migrated) 0 old new []
version_gone old new count crls entries held t run = row_goes Migrated 1 old new count t.schema_is t.version run

pub version_set : (old mid new : State) (one two : ℕ) (crls : List UnscopedCrl) (entries : List UnscopedEntry) → ExecutesInside 0 delete_version (Int (pos 1) ∷ []) old mid (Ok one) → ExecutesInside 0 insert_version (Int (pos 1) ∷ Int (pos 2) ∷ []) mid new (Ok two)
    → HasStepped old new (HasNewTables crls entries) (HasMoved crls entries [])
version_set old mid new one two crls entries a b = record {
  keeps = record { was_open = λ _. a.1.was_open; committed = λ _. b.1.committed_is ∙ a.1.committed_is };
  mode = rw b.1.mode refl;
  held = λ held t.
      let gone = version_gone old mid one crls entries held t a in
      let left = row_comes Migrated 2 mid new two gone.schema_is gone.rows_are b in
      let kept = others_kept Migrated old mid new [] _ gone left in
      record {
        it = t.it;
        was = t.was;
        contents = without_lists t.it;
        rows = record {
          schema_is = left.schema_is;
          sound = left.sound;
          version = left.rows_are;
          issuers = kept.issuers ∙ t.issuers;
          singles = kept.singles ∙ t.singles;
          crls = kept.crls ∙ t.no_crls;
          entries = kept.entries ∙ t.no_entries;
          issuers_rise = t.was.issuers_rise;
          singles_rise = t.was.singles_rise;
          crls_rise = tt;
          entries_rise = tt;
        };
        form = record {
          ids = t.was.form.ids;
          numbers = tt;
          reasons = tt;
          statuses = all_without (λ (row : SingleRow). (row.issuer < next_id t.it.issuers) × IsSaid row.fact) (λ row. IsSaid row.fact) t.it.singles (λ row h. h.1) t.was.form.singles;
          placed = record { rise = tt; inside = tt; stand = λ i s. tt; serials = λ i s. tt };
        };
        owned = record {
          crls = tt;
          singles = all_without (λ (row : SingleRow). (row.issuer < next_id t.it.issuers) × IsSaid row.fact) (λ row. row.issuer < next_id t.it.issuers) t.it.singles (λ row h. h.0) t.was.form.singles;
        };
        profile_is = refl;
        issuers_are = refl;
        singles_are = refl;
        lists = no_list entries;
        ids = tt;
      };
}
