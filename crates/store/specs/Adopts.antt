-- What the calls of a store say of the database outside a transaction.
use Rattle.std.specs.Prelude.{◌≡◌, ◌≢◌, ◌⊎◌, Result, None, Ok, Err, IfErr, OnOk, IsTrue}
use Rattle.sqlite.specs.Effect.{Database}
use Rattle.sqlite.specs.State.{State, HasCleanDisk, IsUnchanged, KeepsCommit, Survives}
use Rattle.sqlite_disk.specs.declared.Disk.{Ghosts}
use Rattle.sqlite_disk.specs.declared.Files.{Files}
use Rattle.sqlite_store.specs.declared.store.FileStore.{FileStore}
use Rattle.sqlite.specs.Held.{Held}
use Rattle.sqlite.specs.Files.{file_state, Finds, IsOpened}
use Rattle.sqlite.specs.Closing.{IsCopied}
use Rattle.sqlite.specs.WalReads.{AreClean}
use Rattle.statements_facts.specs.declared.counts.Counts.{Counts}
use Rattle.statements_facts.specs.declared.fact.Facts.{Facts}
use Rattle.statements_facts.specs.declared.profile.Profile.{Profile}
use Rattle.statements_facts.specs.Statement.{Holdings, empty_under}
use Rattle.store_sql.specs.declared.fault.StoreFault.{StoreFault}
use Rattle.store_sql.specs.declared.fault.StoreFault.TheVariants.{Store, Schema}
use Rattle.store_sql.specs.Cause.{MayRefuse}
use Rattle.store_maps.specs.Held.{IsStoreOf, AreTreesOf}
use Rattle.store_maps.specs.LooksUp.{IsCausedOverStore}
use Rattle.sqlite_trees.specs.Tree.{Trees}
use Rattle.store_taking.specs.Delivery.{PutsFacts, AllOrNothing}
use Rattle.store_taking.specs.Room.{PutsForCause}
use Rattle.store_adoption.specs.Creates.{CreateIsCaused, IsCreated, MayLeaveEmptyStore}
use Rattle.store_adoption.specs.Inspects.{HasTooMany, IsStore, IsStoreUnder, TablesAreInOrder, LacksVersion1, LacksVersion2}
use Rattle.store_adoption.specs.Version1.{IsVersion1Of, IsVersion1}
use Rattle.store_migration.specs.Migrates.{FitsVersion2}

-- nothing changes and the database is a store of the profile that is answered; or a fault, which is for the tables and rows only where it
-- is none
abbrev pub Adopts : State → State → Result Profile StoreFault → Type 0
Adopts old new (Ok profile) = IsUnchanged old new × IsStoreUnder profile new.now
Adopts old new (Err fault) = KeepsCommit old new × (fault ≡ Schema → (held : Holdings) → IsStoreOf old.now held → ⊥)

-- the fault `Store` has a cause: the database may refuse, or has more rows than are counted
abbrev pub AdoptIsCaused : State → State → StoreFault → Type 0
AdoptIsCaused old new fault = fault ≡ Store → MayRefuse old new ⊎ HasTooMany old.now

-- It was a store of this profile, and nothing changes; or it was of version 1, and what that held is held by version 2. It is a store of
-- this profile then.
pub record IsTakenOver (profile : Profile) (old new : State) : Type 0 where
  pub was_open : IsTrue old.is_open
  pub was : IsStoreUnder profile old.now ⊎ IsVersion1 old.now
  pub store : IsStoreUnder profile new.now
  pub is_open : IsTrue new.is_open
  pub unchanged : IsStore old.now → IsUnchanged old new
  pub migrated : (held : Holdings) → IsVersion1Of old.now held → IsStoreOf new.now held

-- the database is a store of this profile in neither version; version 1 is of the stated profile
abbrev pub IsNoStore : Profile → Database → Type 0
IsNoStore profile db = (held : Holdings) → held.profile ≡ profile → IsStoreOf db held ⊎ IsVersion1Of db held → ⊥

-- or the last commit stays, and the fault is for the tables and rows only where they are those of no such store
abbrev pub TakesOver : {A : Type 0} → Profile → State → State → Result A StoreFault → Type 0
TakesOver profile old new (Ok done) = IsTakenOver profile old new
TakesOver profile old new (Err fault) = KeepsCommit old new × (fault ≡ Schema → IsNoStore profile old.now)

-- the same over a store of which nothing says that the rows of its tables stand in the order of their ids
abbrev pub TakesOverOrdered : {A : Type 0} → Profile → State → State → Result A StoreFault → Type 0
TakesOverOrdered profile old new (Ok done) = IsTrue old.is_open × (TablesAreInOrder old.now → IsTakenOver profile old new)
TakesOverOrdered profile old new (Err fault) = KeepsCommit old new × (fault ≡ Schema → IsNoStore profile old.now)

abbrev pub TakesOverInOrder : {A : Type 0} → Profile → State → State → Result A StoreFault → Type 0
TakesOverInOrder profile old new result = HasCleanDisk new → TakesOverOrdered profile old new result

-- the tables are those of neither version
abbrev pub HasOtherTables : Database → Type 0
HasOtherTables db = LacksVersion2 db × LacksVersion1 db

-- the store of version 2 that one of version 1 becomes
abbrev pub IsMigratedFrom : State → Trees → Type 0
IsMigratedFrom old trees = IsVersion1 old.now × ((held : Holdings) → IsVersion1Of old.now held → AreTreesOf held trees)

-- no limit is set on the steps of a query
abbrev pub IsUnlimited : State → Type 0
IsUnlimited s = s.step_limit ≡ None

-- ---- look-ups between transactions

-- where the connection is still open the database is as it was, and so are both maps
pub record StaysIfOpen (old new : State) : Type 0 where
  pub was_open : IsTrue new.is_open → IsTrue old.is_open
  pub now_is : IsTrue new.is_open → new.now ≡ old.now

-- what is found is what is held, and no fault is for the form of the rows of a store; the database is kept so
abbrev pub FindsOrFails : {A : Type 0} → Type 0 → Database → (Holdings → A → Type 0) → Result A StoreFault → Type 0
FindsOrFails Kept db Is (Ok found) = Kept × ((held : Holdings) → IsStoreOf db held → Is held found)
FindsOrFails Kept db Is (Err fault) = Kept × (fault ≡ Schema → (held : Holdings) → IsStoreOf db held → ⊥)

-- if the disk has returned what was written
abbrev pub FindsHeld : {A : Type 0} → (State → State → Type 0) → State → State → (Holdings → A → Type 0) → Result A StoreFault → Type 0
FindsHeld Keeps old new Is result = HasCleanDisk new → FindsOrFails (Keeps old new) old.now Is result

-- no look-up on a connection that is shut succeeds, if the disk has returned what was written
abbrev pub FindsOnlyIfOpen : {A : Type 0} → State → State → Result A StoreFault → Type 0
FindsOnlyIfOpen old new result = HasCleanDisk new → OnOk result (IsTrue old.is_open)

-- over a store the fault `Store` has a cause, if the disk has returned what was written
abbrev pub CausedOn : {A : Type 0} → State → State → Result A StoreFault → Type 0
CausedOn old new result = HasCleanDisk new → IfErr result (IsCausedOverStore old new)

-- a connection that was opened on the files that a close gave back is the same store
abbrev pub Reopens : {D : Type 0} {g : Ghosts D} → Held (FileStore D g) → Files D → Type 0
Reopens {D} {g} old files = (again : Held (FileStore D g)) → Finds files again → IsOpened again → (held : Holdings) → IsStoreOf (file_state old).now held → IsStoreOf (file_state again).now held

-- ---- closed and opened again

abbrev pub AreUsable : {D : Type 0} → Ghosts D → Files D → Type 0
AreUsable g files = IsTrue (g.is_usable files.log) × IsTrue (g.is_usable files.db)

-- where their disk returned what was written, the database file has all that was committed
abbrev pub CopiesTo : {D : Type 0} {g : Ghosts D} → Held (FileStore D g) → Files D → Type 0
CopiesTo {D} {g} old files = AreClean g files.log files.db → IsCopied old files

-- it holds what it held
pub record Restarts (old new : State) : Type 0 where
  pub was_clean : HasCleanDisk old
  pub was_open : IsTrue old.is_open
  pub is_open : IsTrue new.is_open
  pub holds : (held : Holdings) → IsStoreOf old.now held → IsStoreOf new.now held

-- ---- calls on a connection over files, if the disk has returned what was written

module _ {D : Type 0} {g : Ghosts D} (old new : Held (FileStore D g)) where
  abbrev pub AdoptsOn : Result Profile StoreFault → Type 0
  AdoptsOn result = HasCleanDisk (file_state new) → Adopts (file_state old) (file_state new) result

  abbrev pub AdoptsForCause : {A : Type 0} → Result A StoreFault → Type 0
  AdoptsForCause result = HasCleanDisk (file_state new) → IfErr result (AdoptIsCaused (file_state old) (file_state new))

  -- the same if what is migrated fits
  abbrev pub TakesOverForCause : {A : Type 0} → Result A StoreFault → Type 0
  TakesOverForCause result = HasCleanDisk (file_state new) → FitsVersion2 (file_state old).now → IfErr result (AdoptIsCaused (file_state old) (file_state new))

  abbrev pub IsRefusedForCause : StoreFault → Type 0
  IsRefusedForCause fault = HasCleanDisk (file_state new) → FitsVersion2 (file_state old).now → AdoptIsCaused (file_state old) (file_state new) fault

  abbrev pub TakesOverOn : {A : Type 0} → Profile → Result A StoreFault → Type 0
  TakesOverOn profile result = HasCleanDisk (file_state new) → TakesOver profile (file_state old) (file_state new) result

  -- a crash leaves what it could leave before, or the store of version 2 that one of version 1 becomes
  abbrev pub MayLeaveVersion2 : Type 0
  MayLeaveVersion2 = Survives (file_state old) (file_state new) (IsMigratedFrom (file_state old))

  abbrev pub MayLeaveEmpty : Profile → Type 0
  MayLeaveEmpty profile = MayLeaveEmptyStore profile (file_state old) (file_state new)

  abbrev pub IsCreatedOn : Profile → Type 0
  IsCreatedOn profile = HasCleanDisk (file_state new) → IsCreated profile (file_state old) (file_state new)

  -- The connection is as it was, if it is still open, and the fault is not for the tables.
  abbrev pub IsNotCreatedOn : StoreFault → Type 0
  IsNotCreatedOn fault = HasCleanDisk (file_state new) → StaysIfOpen (file_state old) (file_state new) × (fault ≢ Schema)

  -- over an empty database the fault `Store` has a cause
  abbrev pub IsNotCreatedForCause : StoreFault → Type 0
  IsNotCreatedForCause fault = HasCleanDisk (file_state new) → CreateIsCaused (file_state old) (file_state new) fault

  -- The connection is as it was, if it is still open, and the fault is for the tables and rows only where they are those of no store of this
  -- profile.
  abbrev pub IsNotAdoptedOn : Profile → StoreFault → Type 0
  IsNotAdoptedOn profile fault = HasCleanDisk (file_state new) → StaysIfOpen (file_state old) (file_state new) × (fault ≡ Schema → IsNoStore profile (file_state old).now)

  -- it was a store of this profile, or of version 1
  abbrev pub WasStoreOn : Profile → Type 0
  WasStoreOn profile = HasCleanDisk (file_state new) → IsStoreUnder profile (file_state old).now ⊎ IsVersion1 (file_state old).now

  -- a store does not change
  abbrev pub KeepsStoreOn : Type 0
  KeepsStoreOn = HasCleanDisk (file_state new) → IsStore (file_state old).now → IsUnchanged (file_state old) (file_state new)

  -- what version 1 held is held by version 2
  abbrev pub MigratesStoreOn : Type 0
  MigratesStoreOn = HasCleanDisk (file_state new) → (held : Holdings) → IsVersion1Of (file_state old).now held → IsStoreOf (file_state new).now held

  abbrev pub PutsOn : Facts → Result Counts StoreFault → Type 0
  PutsOn facts result = PutsFacts (file_state old) (file_state new) facts result

  -- the fault `Store` has a cause, if the facts keep within the limits and the store has room for them
  abbrev pub PutsForCauseOn : {A : Type 0} → Facts → Result A StoreFault → Type 0
  PutsForCauseOn facts result = PutsForCause (file_state old) (file_state new) facts result

  abbrev pub AllOrNothingOn : Facts → Type 0
  AllOrNothingOn facts = AllOrNothing (file_state old) (file_state new) facts

  abbrev pub FindsHeldOn : {A : Type 0} → (Holdings → A → Type 0) → Result A StoreFault → Type 0
  FindsHeldOn Is result = FindsHeld StaysIfOpen (file_state old) (file_state new) Is result

  abbrev pub RestartsOn : Type 0
  RestartsOn = HasCleanDisk (file_state new) → Restarts (file_state old) (file_state new)

abbrev pub HasStoreOn : {D : Type 0} {g : Ghosts D} → Held (FileStore D g) → Type 0
HasStoreOn conn = HasCleanDisk (file_state conn) → IsStore (file_state conn).now

abbrev pub IsStoreOn : {D : Type 0} {g : Ghosts D} → Profile → Held (FileStore D g) → Type 0
IsStoreOn profile conn = HasCleanDisk (file_state conn) → IsStoreUnder profile (file_state conn).now

abbrev pub IsEmptyStoreOn : {D : Type 0} {g : Ghosts D} → Profile → Held (FileStore D g) → Type 0
IsEmptyStoreOn profile conn = HasCleanDisk (file_state conn) → IsStoreOf (file_state conn).now (empty_under profile)

abbrev pub IsOpenOn : {D : Type 0} {g : Ghosts D} → Held (FileStore D g) → Type 0
IsOpenOn conn = HasCleanDisk (file_state conn) → IsTrue (file_state conn).is_open
