-- A store whose version is that of the wide profile.
use Rattle.std.proofs.Common.{◌≡◌, ℕ, pos, [], ◌∷◌, Option, Some, None, is_some, IfSome, true, true≢false, Ok, Err, refl, sym, ap, ◌∙◌}
use Rattle.sqlite.specs.declared.types.Value.TheVariants.{Int}
use Rattle.sqlite.specs.declared.error.Error.{Error}
use Rattle.sqlite.specs.Effect.{Database}
use Rattle.sqlite.specs.Schema.{Schema}
use Rattle.sqlite.specs.State.{State, ExecutesInside, HasCleanDisk, Survives}
use Rattle.sqlite_trees.specs.Tree.{Trees}
use Rattle.statements_facts.specs.declared.profile.Profile.TheVariants.{Wide}
use Rattle.statements_facts.specs.Statement.{Holdings}
use Rattle.store_sql.specs.declared.origin.Origin.{Origin}
use Rattle.store_sql.specs.Cause.{IsOfVersion2}
use Rattle.store_sql.specs.Fault.{fault_from}
use Rattle.store_sql.specs.Tables.{store_schema}
use Rattle.store_sql.specs.Texts.{delete_version, insert_version}
use Rattle.store_sql.proofs.Laws.{Leaves, later_refuses}
use Rattle.store_rows.specs.Contents.{version_number, version_row}
use Rattle.store_rows.proofs.Laws.{version_not_deleted, version_not_inserted}
use Rattle.store_maps.specs.Held.{IsStoreOf}
use Rattle.store_taking.specs.Passing.{HasStepped}
use Rattle.store_migration.specs.Moves.{StopIsCaused}
use Rattle.store_migration.specs.Widens.{widened, IsWideStoreOf}
use Rattle.store_migration.proofs.VersionRow.{row_goes, row_comes, others_kept}

-- the tables that were recognised are those of a store
pub tables_of : (db : Database) (shown : Schema) (found : Option Origin) → shown ≡ db.schema → is_some found ≡ true → IfSome found (λ origin. shown ≡ store_schema origin) → IsOfVersion2 db
tables_of db shown None same some is = absurd (true≢false (sym some))
tables_of db shown (Some origin) same some is = (origin, sym same ∙ is)

-- the version is another, and all else is as it was
wide_of : (old mid new : State) (held : Holdings) (it : IsStoreOf old.now held) → Leaves (store_schema it.origin) 0 old mid [] → Leaves (store_schema it.origin) 0 mid new (version_row Wide ∷ []) → IsWideStoreOf new.now held
wide_of old mid new held it gone come =
    let kept = others_kept it.origin old mid new [] _ gone come in
    let r = it.rows in
    record {
      origin = it.origin;
      contents = record it.contents { profile = Wide };
      rows = record {
        schema_is = come.schema_is;
        sound = come.sound;
        version = come.rows_are;
        issuers = kept.issuers ∙ r.issuers;
        singles = kept.singles ∙ r.singles;
        crls = kept.crls ∙ r.crls;
        entries = kept.entries ∙ r.entries;
        issuers_rise = r.issuers_rise;
        singles_rise = r.singles_rise;
        crls_rise = r.crls_rise;
        entries_rise = r.entries_rise;
      };
      form = record { ids = it.form.ids; numbers = it.form.numbers; reasons = it.form.reasons; statuses = it.form.statuses; placed = it.form.placed };
      owned = record { crls = it.owned.crls; singles = it.owned.singles };
      held_is = ap widened it.held_is;
    }

pub wide_set : (old mid new : State) (one two : ℕ) → ExecutesInside 0 delete_version (Int (pos 1) ∷ []) old mid (Ok one)
    → ExecutesInside 0 insert_version (Int (pos 1) ∷ Int (pos (version_number Wide)) ∷ []) mid new (Ok two) → HasStepped old new IsStoreOf IsWideStoreOf
wide_set old mid new one two a b = record {
  keeps = record { was_open = λ _. a.1.was_open; committed = λ _. b.1.committed_is ∙ a.1.committed_is };
  mode = rw b.1.mode refl;
  held = λ held it.
      let gone = row_goes it.origin (version_number it.contents.profile) old mid one it.rows.schema_is it.rows.version a in
      wide_of old mid new held it gone (row_comes it.origin (version_number Wide) mid new two gone.schema_is gone.rows_are b);
}

-- ---- why it is not set

pub wide_stays : (old new : State) (error : Error) → ExecutesInside 0 delete_version (Int (pos 1) ∷ []) old new (Err error) → StopIsCaused IsStoreOf old new (fault_from error)
wide_stays old new error one e held it = version_not_deleted it.origin old new it.rows.schema_is it.rows.sound error one e

pub wide_not_set : (old mid new : State) (P Q : Trees → Type 0) → Survives old mid P → Survives mid new Q → HasCleanDisk mid → (error : Error) (count : ℕ) → ExecutesInside 0 delete_version (Int (pos 1) ∷ []) old mid (Ok count)
    → ExecutesInside 0 insert_version (Int (pos 1) ∷ Int (pos (version_number Wide)) ∷ []) mid new (Err error) → StopIsCaused IsStoreOf old new (fault_from error)
wide_not_set old mid new P Q first second clean error count one two e held it =
    let gone = row_goes it.origin (version_number it.contents.profile) old mid count it.rows.schema_is it.rows.version one in
    later_refuses old mid new P Q first second clean
    (version_not_inserted it.origin (version_number Wide) mid new gone.schema_is gone.rows_are gone.sound error two e)
