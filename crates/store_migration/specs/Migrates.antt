-- A database of version 1 becomes a store of version 2, whole or not at all.
use Rattle.std.specs.Prelude.{◌≡◌, ◌⊎◌, List, Result, Ok, Err, IfErr, IsTrue}
use Rattle.sqlite.specs.Effect.{Database}
use Rattle.sqlite.specs.Held.{Held, state}
use Rattle.sqlite.specs.State.{State, HasCleanDisk, KeepsCommit, Survives}
use Rattle.sqlite_trees.specs.declared.store.Store.{Ghosts}
use Rattle.sqlite_trees.specs.Tree.{Trees}
use Rattle.statements_facts.specs.Statement.{Holdings}
use Rattle.store_sql.specs.declared.fault.StoreFault.{StoreFault}
use Rattle.store_sql.specs.declared.fault.StoreFault.TheVariants.{Store, Schema}
use Rattle.store_sql.specs.Cause.{MayRefuse}
use Rattle.store_maps.specs.Held.{IsStoreOf, AreTreesOf}
use Rattle.store_adoption.specs.Inspects.{HasTooMany, TablesAreInOrder}
use Rattle.store_adoption.specs.declared.unscoped.UnscopedLists.{UnscopedLists}
use Rattle.store_adoption.specs.Seen.{seen_crls, seen_entries}
use Rattle.store_adoption.specs.Version1.{UnscopedCrl, UnscopedEntry, IsVersion1Of, IsVersion1, unscoped_entries}
use Rattle.store_migration.specs.Moved.{IsOld}
use Rattle.store_migration.specs.Moves.{ListsFit, StopIsCaused}

-- what version 1 held is held by version 2, and is committed
pub record IsMigrated (old new : State) : Type 0 where
  pub was_open : IsTrue old.is_open
  pub version_1 : TablesAreInOrder old.now → IsVersion1 old.now
  pub is_open : IsTrue new.is_open
  pub held : (held : Holdings) → IsVersion1Of old.now held → IsStoreOf new.now held
  pub committed_is : new.committed ≡ new.now

-- or the last commit stays, and the fault is for the tables and rows only where they are not of version 1
abbrev pub Migrates : {A : Type 0} → State → State → Result A StoreFault → Type 0
Migrates old new (Ok done) = IsMigrated old new
Migrates old new (Err fault) = KeepsCommit old new × (fault ≡ Schema → (held : Holdings) → IsVersion1Of old.now held → ⊥)

-- in a database of version 1 no list has more than 2^32 entries, and no serial number has about a billion octets
abbrev pub FitsVersion2 : Database → Type 0
FitsVersion2 db = (held : Holdings) (was : IsVersion1Of db held) → ListsFit (unscoped_entries was.contents)

-- the fault `Store` has a cause: the database may refuse, or has more rows than are counted
abbrev pub MigrateIsCaused : State → State → StoreFault → Type 0
MigrateIsCaused old new fault = fault ≡ Store → TablesAreInOrder old.now → FitsVersion2 old.now → MayRefuse old new ⊎ HasTooMany old.now

-- what a crash may leave beside what it could leave before, and that only where the database was of version 1: the store of version 2
abbrev pub LeavesMigrated : State → Trees → Type 0
LeavesMigrated old trees = (TablesAreInOrder old.now → IsVersion1 old.now) × ((held : Holdings) → IsVersion1Of old.now held → AreTreesOf held trees)

abbrev pub MayLeaveMigrated : State → State → Type 0
MayLeaveMigrated old new = Survives old new (LeavesMigrated old)

-- a call on a connection migrates, if the disk has returned what was written
abbrev pub MigratesOn : {S A : Type 0} → Ghosts S → Held S → Held S → Result A StoreFault → Type 0
MigratesOn g old new result = HasCleanDisk (state g new) → Migrates (state g old) (state g new) result

abbrev pub MigratesForCause : {S A : Type 0} → Ghosts S → Held S → Held S → Result A StoreFault → Type 0
MigratesForCause g old new result = HasCleanDisk (state g new) → IfErr result (MigrateIsCaused (state g old) (state g new))

-- ---- on the way, where these are the lists and their entries

pub record HaveMoved (old new : State) (crls : List UnscopedCrl) (entries : List UnscopedEntry) : Type 0 where
  pub was_open : IsTrue old.is_open
  pub is_open : IsTrue new.is_open
  pub held : (held : Holdings) → IsOld crls entries old.now held → IsStoreOf new.now held
  pub committed_is : new.committed ≡ new.now

abbrev pub MigratesLists : {A : Type 0} → State → State → List UnscopedCrl → List UnscopedEntry → Result A StoreFault → Type 0
MigratesLists old new crls entries (Ok done) = HaveMoved old new crls entries
MigratesLists old new crls entries (Err fault) = KeepsCommit old new × (fault ≡ Schema → (held : Holdings) → IsOld crls entries old.now held → ⊥)

abbrev pub LeavesMoved : State → List UnscopedCrl → List UnscopedEntry → Trees → Type 0
LeavesMoved old crls entries trees = (held : Holdings) → IsOld crls entries old.now held → AreTreesOf held trees

-- ---- the same of what was read

abbrev pub MigratesListsOn : {S A : Type 0} → Ghosts S → Held S → Held S → UnscopedLists → Result A StoreFault → Type 0
MigratesListsOn g old new all result = HasCleanDisk (state g new) → MigratesLists (state g old) (state g new) (seen_crls all) (seen_entries all) result

abbrev pub MigratesListsForCause : {S A : Type 0} → Ghosts S → Held S → Held S → UnscopedLists → Result A StoreFault → Type 0
MigratesListsForCause g old new all result =
    HasCleanDisk (state g new) → ListsFit (seen_entries all) → IfErr result (StopIsCaused (IsOld (seen_crls all) (seen_entries all)) (state g old) (state g new))

abbrev pub MayLeaveMoved : State → State → UnscopedLists → Type 0
MayLeaveMoved old new all = Survives old new (LeavesMoved old (seen_crls all) (seen_entries all))
