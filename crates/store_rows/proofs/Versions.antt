-- Why the row of the version is not written.
use Rattle.std.proofs.Common.{◌≡◌, ℕ, ℤ, pos, List, [], ◌∷◌, Err, Some, slice_get, refl, ap, subst, inl, inr, arith}
use Rattle.std.specs.List.{AllByRecursion}
use Rattle.sqlite_schema.specs.declared.schema.Constraint.TheVariants.{Unique}
use Rattle.sqlite_schema.specs.declared.schema.Index.{Index}
use Rattle.sqlite_schema.specs.declared.schema.Keys.{Keys}
use Rattle.sqlite_schema.specs.Rules.{Keeps}
use Rattle.sqlite_rules.specs.Action.{works}
use Rattle.sqlite_rules.specs.Edit.{IsOversized}
use Rattle.sqlite_rules.specs.Lists.{Has}
use Rattle.sqlite.specs.declared.types.Value.TheVariants.{Null, Int}
use Rattle.sqlite.specs.declared.error.Error.{Error}
use Rattle.sqlite.specs.Effect.{Database, IsDatabase}
use Rattle.sqlite.specs.Order.{Row}
use Rattle.sqlite.specs.Term.{lit, col}
use Rattle.sqlite.specs.State.{State, ExecutesInside}
use Rattle.store_sql.specs.declared.fault.StoreFault.TheVariants.{Store}
use Rattle.store_sql.specs.declared.origin.Origin.{Origin}
use Rattle.store_sql.specs.declared.origin.Origin.TheVariants.{Made, Migrated}
use Rattle.store_sql.specs.Fault.{fault_from}
use Rattle.store_sql.specs.Cause.{MayRefuse}
use Rattle.store_sql.specs.Queries.{is_param}
use Rattle.store_sql.specs.Tables.{meta_table, store_schema}
use Rattle.store_sql.specs.Texts.{delete_version, insert_version}
use Rattle.store_sql.proofs.Laws.{delete_caused, given_caused, int_is_number, zero_is_number, storable, deletes_version, inserts_version, delete_version_whole, insert_version_whole, version_deletion_typed, version_insertion_typed}
use Rattle.store_rows.proofs.NewRows.{no_references}
use Rattle.store_rows.proofs.Terms.{cast_null, cast_int, as_int}

version_stands : (origin : Origin) → slice_get (store_schema origin).tables 0 ≡ Some (meta_table 0)
version_stands Made = refl
version_stands Migrated = refl

version_alone : (origin : Origin) (keys : Keys) (gone news : List Row) → works (store_schema origin) keys 0 0 gone news ≡ []
version_alone Made keys gone news = refl
version_alone Migrated keys gone news = refl

no_version_key : (origin : Origin) (i : Index) → Has (store_schema origin).indexes i → ¬ (i.table ≡ 0)
no_version_key Made i (inl is) at = absurd (let t = ap (λ (k : Index). k.table) is in omega (arith, t, at))
no_version_key Made i (inr (inl is)) at = absurd (let t = ap (λ (k : Index). k.table) is in omega (arith, t, at))
no_version_key Made i (inr (inr (inl is))) at = absurd (let t = ap (λ (k : Index). k.table) is in omega (arith, t, at))
no_version_key Made i (inr (inr (inr none))) at = absurd none
no_version_key Migrated i (inl is) at = absurd (let t = ap (λ (k : Index). k.table) is in omega (arith, t, at))
no_version_key Migrated i (inr (inl is)) at = absurd (let t = ap (λ (k : Index). k.table) is in omega (arith, t, at))
no_version_key Migrated i (inr (inr (inl is))) at = absurd (let t = ap (λ (k : Index). k.table) is in omega (arith, t, at))
no_version_key Migrated i (inr (inr (inr (inl is)))) at = absurd (let t = ap (λ (k : Index). k.table) is in omega (arith, t, at))
no_version_key Migrated i (inr (inr (inr (inr none)))) at = absurd none

version_small : (origin : Origin) (version : ℕ) → ¬ IsOversized (store_schema origin) (meta_table 0) (Int (pos 1) ∷ Null ∷ Int (pos version) ∷ [])
version_small origin version (inl big) =
    big (storable (Int (pos 1) ∷ Null ∷ Int (pos version) ∷ []) (int_is_number (pos 1), (zero_is_number, (int_is_number (pos version), tt))) (omega arith) (omega arith) (omega arith), omega arith)
version_small origin version (inr keyed) = absurd (no_version_key origin keyed.0 keyed.1 keyed.2)

keeps_unique : (origin : Origin) (db : Database) → db.schema ≡ store_schema origin → IsDatabase db → Keeps Unique (store_schema origin) db.trees
keeps_unique origin db has sound = subst (λ s. Keeps Unique s db.trees) has (sound.obeys.rules Unique)

pub version_not_inserted : (origin : Origin) (version : ℕ) (old new : State) → old.now.schema ≡ store_schema origin → old.now.trees 0 ≡ [] → IsDatabase old.now
    → (error : Error) → ExecutesInside 0 insert_version (Int (pos 1) ∷ Int (pos version) ∷ []) old new (Err error) → fault_from error ≡ Store → MayRefuse old new
version_not_inserted origin version old new has none sound =
    let text = inserts_version origin in
    given_caused (store_schema origin) 0 _ 0 _ _ _ _ _ (version_stands origin) (version_alone origin) (no_references origin) (λ (n : ℤ). Int n ∷ Null ∷ Int (pos version) ∷ []) (λ n. n) (λ n. refl)
    insert_version (Int (pos 1) ∷ Int (pos version) ∷ []) _ 3 (Null ∷ Int (pos version) ∷ []) text.0 text.1 (insert_version_whole origin) (version_insertion_typed (pos 1) (pos version))
    old new [] has none (keeps_unique origin old.now has sound) (pos 1)
    (rw (as_int (pos 1), cast_null, cast_int (pos version)) refl)
    (record {
      typed = refl;
      present = refl;
      fits = refl;
      apart = tt;
      new_key = λ i listed at. absurd (no_version_key origin i listed at);
      small = version_small origin version;
    })

pub version_not_deleted : (origin : Origin) (old new : State) → old.now.schema ≡ store_schema origin → IsDatabase old.now
    → (error : Error) → ExecutesInside 0 delete_version (Int (pos 1) ∷ []) old new (Err error) → fault_from error ≡ Store → MayRefuse old new
version_not_deleted origin old new has sound =
    let text = deletes_version origin in
    delete_caused (store_schema origin) 0 _ 0 _ _ _ _ _ (version_stands origin) (version_alone origin) (no_references origin)
    delete_version (Int (pos 1) ∷ []) text.1 (delete_version_whole origin) old new has (is_param 0 0 ∷ []) text.0 (version_deletion_typed origin (pos 1)) (keeps_unique origin old.now has sound)
