-- Why a migration stops: the database may refuse.
use Rattle.std.proofs.Common.{◌≡◌, ◌<◌, ◌≤◌, ◌+◌, ◌++◌, ℕ, pos, List, [], ◌∷◌, length, Ok, Err, refl, inl, inr, sym, ap, subst, ◌∙◌, arith}
use Rattle.std.specs.List.{AllByRecursion}
use Rattle.sqlite.specs.declared.types.Value.TheVariants.{Int}
use Rattle.sqlite.specs.declared.error.Error.{Error}
use Rattle.sqlite.specs.Effect.{Database}
use Rattle.sqlite.specs.State.{State, ExecutesInside, HasCleanDisk, Survives}
use Rattle.sqlite_trees.specs.Tree.{Trees, IsAscending}
use Rattle.statements_facts.specs.Listed.{ListedSerial, IsAscending as Ascend, first_reason}
use Rattle.statements_facts.specs.Statement.{Holdings}
use Rattle.store_sql.specs.declared.fault.StoreFault.{StoreFault}
use Rattle.store_sql.specs.declared.fault.StoreFault.TheVariants.{Store}
use Rattle.store_sql.specs.declared.origin.Origin.TheVariants.{Migrated}
use Rattle.store_sql.specs.Fault.{fault_from}
use Rattle.store_sql.specs.Cause.{MayRefuse}
use Rattle.store_sql.specs.Tables.{version_1_schema, store_schema, scoped_crls_table}
use Rattle.store_sql.specs.Texts.{create_scoped_crls, create_scoped_entries, delete_version, insert_version}
use Rattle.store_sql.proofs.Laws.{makes, makes_crls, crls_caused, entries_caused, later_refuses}
use Rattle.store_rows.specs.Contents.{CrlRow}
use Rattle.store_rows.specs.Holding.{HasRoom, next_id}
use Rattle.store_rows.specs.Room.{CrlsLeaveAnId, EntriesFit, LeavesIds}
use Rattle.store_rows.specs.Steps.{IsCausedIfRoom}
use Rattle.store_rows.proofs.Laws.{version_not_deleted, version_not_inserted}
use Rattle.store_adoption.specs.Version1.{UnscopedCrl, UnscopedEntry, listed_under}
use Rattle.store_taking.specs.Passing.{HasStepped}
use Rattle.store_taking.proofs.Laws.{all_as}
use Rattle.store_migration.specs.Moved.{HasMoved, HasNewTables, IsAmongFirst, IsNext, IsOld}
use Rattle.store_migration.specs.Moves.{HasRoomForList, StopIsCaused}
use Rattle.store_migration.proofs.Beside.{version_gone}
use Rattle.store_migration.proofs.Counting.{among_leaves, few_between, next_has_room}
use Rattle.store_migration.proofs.Fitting.{made_fits}
use Rattle.store_migration.proofs.Moving.{Before, lost, member}

-- ---- one call behind another

module _ (old mid new : State) (P Q : Trees → Type 0) (first : Survives old mid P) (second : Survives mid new Q) (clean : HasCleanDisk mid) where
  pub stop_then : (Was Mid : Database → Holdings → Type 0) (fault : StoreFault) → HasStepped old mid Was Mid → StopIsCaused Mid mid new fault → StopIsCaused Was old new fault
  stop_then Was Mid fault steps caused e held was = later_refuses old mid new P Q first second clean (caused e held (steps.held held was))

  -- ---- the tables, and the version

  pub entries_not_made : (crls : List UnscopedCrl) (entries : List UnscopedEntry) (error : Error) (count : ℕ) → ExecutesInside 0 create_scoped_crls [] old mid (Ok count) → ExecutesInside 0 create_scoped_entries [] mid new (Err error)
      → StopIsCaused (IsOld crls entries) old new (fault_from error)
  entries_not_made crls entries error count one two e held was =
      let x = makes_crls Migrated in
      let made = makes old mid create_scoped_crls version_1_schema (scoped_crls_table 0) count was.rows.schema_is x.0 x.1 x.2 x.4 refl one.0 in
      later_refuses old mid new P Q first second clean (entries_caused Migrated mid new (made.schema_is ∙ x.3) error two e)

  pub version_not_set : (crls : List UnscopedCrl) (entries : List UnscopedEntry) (error : Error) (count : ℕ) → ExecutesInside 0 delete_version (Int (pos 1) ∷ []) old mid (Ok count) → ExecutesInside 0 insert_version (Int (pos 1) ∷ Int (pos 2) ∷ []) mid new (Err error)
      → StopIsCaused (HasNewTables crls entries) old new (fault_from error)
  version_not_set crls entries error count one two e held was =
      let gone = version_gone old mid count crls entries held was one in
      later_refuses old mid new P Q first second clean
      (version_not_inserted Migrated 2 mid new gone.schema_is gone.rows_are gone.sound error two e)

pub crls_not_made : (old new : State) (crls : List UnscopedCrl) (entries : List UnscopedEntry) (error : Error) → ExecutesInside 0 create_scoped_crls [] old new (Err error) → StopIsCaused (IsOld crls entries) old new (fault_from error)
crls_not_made old new crls entries error one e held was = crls_caused Migrated old new was.rows.schema_is error one e

pub version_stays : (old new : State) (crls : List UnscopedCrl) (entries : List UnscopedEntry) (error : Error) → ExecutesInside 0 delete_version (Int (pos 1) ∷ []) old new (Err error) → StopIsCaused (HasNewTables crls entries) old new (fault_from error)
version_stays old new crls entries error one e held was =
    version_not_deleted Migrated old new was.schema_is was.sound error one e

-- ---- a list

module _ (crls moved : List UnscopedCrl) (entries : List UnscopedEntry) (crl : UnscopedCrl) (next : IsNext crls moved crl) (db : Database) (held : Holdings) (m : HasMoved crls entries moved db held) where
  crl_room : crl.issuer < 536870911
  crl_room =
      let all : m.it.crls ≡ (moved ++ crl ∷ []) ++ next.0 = m.was.lists.0 ∙ next.1 in
      let low = (member (λ c. (c.issuer < next_id m.it.issuers) × _) moved crl next.0 (subst (AllByRecursion (λ (c : UnscopedCrl). (c.issuer < next_id m.it.issuers) × _)) all m.was.form.crls)).0 in
      let limit = next_has_room 1 m.it.issuers (omega arith) m.was.form.ids in
      omega (arith, low, limit)

  pub issuer_has_room : 536870911 ≤ crl.issuer → ⊥
  issuer_has_room high = let low = crl_room in omega (arith, low, high)

  few_moved : length moved ≤ crl.issuer
  few_moved =
      let all : m.it.crls ≡ (moved ++ crl ∷ []) ++ next.0 = m.was.lists.0 ∙ next.1 in
      let up = subst (IsAscending Before) all m.was.crls_rise in
      let it = few_between 0 crl.issuer moved (omega arith) (front moved up) (from_0 moved) (lost moved crl next.0 up) in omega (arith, it)
    where
      from_0 : (xs : List UnscopedCrl) → AllByRecursion (λ (c : UnscopedCrl). 0 ≤ c.issuer) xs
      from_0 [] = tt
      from_0 (x ∷ xs) = (omega arith, from_0 xs)

      above : (x : UnscopedCrl) (xs rest : List UnscopedCrl) → AllByRecursion (Before x) ((xs ++ crl ∷ []) ++ rest) → AllByRecursion (Before x) xs
      above x [] rest h = tt
      above x (y ∷ ys) rest h = (h.0, above x ys rest h.1)

      front : (xs : List UnscopedCrl) → IsAscending Before ((xs ++ crl ∷ []) ++ next.0) → IsAscending Before xs
      front [] up = tt
      front (x ∷ xs) up = (above x xs next.0 up.0, front xs up.1)

  pub leaves_an_id : CrlsLeaveAnId m.contents
  leaves_an_id =
      let few : length moved < 9223372036854775807 = (let a = few_moved in let b = crl_room in omega (arith, a, b)) in
      all_as (λ (row : CrlRow). IsAmongFirst (length moved) row.id) (λ (row : CrlRow). LeavesIds 1 row.id) m.contents.crls (λ row h. among_leaves (length moved) row.id few h) m.ids

pub list_not_moved : (old new : State) (crls moved : List UnscopedCrl) (entries : List UnscopedEntry) (crl : UnscopedCrl) (revoked : List ListedSerial) (fault : StoreFault) → IsNext crls moved crl → Ascend revoked
    → ((serial : List ℕ) → first_reason revoked serial ≡ first_reason (listed_under entries crl.issuer) serial) → EntriesFit (listed_under entries crl.issuer)
    → IsCausedIfRoom (HasRoomForList revoked) old new fault → StopIsCaused (HasMoved crls entries moved) old new fault
list_not_moved old new crls moved entries crl revoked fault next up reasons fit caused e held m =
    caused e Migrated m.contents m.rows m.form (leaves_an_id crls moved entries crl next old.now held m, made_fits revoked (listed_under entries crl.issuer) up reasons fit)
