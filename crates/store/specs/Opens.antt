-- Why no store is opened or made at a path, or opened again, and what is left then.
use Rattle.std.specs.Prelude.{◌≡◌, ◌≢◌, [], ⊤, IsTrue}
use Rattle.std.specs.IoError.{error_kind}
use Rattle.std.specs.declared.io.ErrorKind.TheVariants as kind
use Rattle.sqlite_disk.specs.declared.Disk.{Ghosts}
use Rattle.sqlite_disk.specs.declared.Files.{Files}
use Rattle.sqlite_std_file.specs.declared.pair.OpenError.{OpenError}
use Rattle.sqlite_std_file.specs.declared.pair.OpenError.TheVariants.{Busy, HotJournal, Io, OutOfMemory}
use Rattle.sqlite_store.specs.declared.store.FileStore.{FileStore}
use Rattle.sqlite.specs.Held.{Held}
use Rattle.sqlite.specs.Files.{FailsToClose, FailsToOpenFiles, Finds, IsCleanLeft, IsClosed, IsOpened, LeavesFiles, file_state}
use Rattle.sqlite.specs.State.{HasCleanDisk}
use Rattle.sqlite.specs.Start.{FindsIn}
use Rattle.sqlite_wal.specs.Recovery.{Image}
use Rattle.sqlite.specs.declared.error.Error.{Error}
use Rattle.sqlite_store.specs.FileStore.{view}
use Rattle.sqlite_trees.specs.View.{IsClean}
use Rattle.store_sql.specs.Fault.{fault_from}
use Rattle.sqlite.specs.declared.file.Leftover.{Leftover}
use Rattle.statements_facts.specs.declared.profile.Profile.{Profile}
use Rattle.statements_facts.specs.Statement.{Holdings}
use Rattle.store_sql.specs.declared.fault.StoreFault.{StoreFault}
use Rattle.store_sql.specs.declared.fault.StoreFault.TheVariants.{Schema}
use Rattle.store_maps.specs.Held.{IsStoreOf}
use Rattle.store_adoption.specs.Creates.{CreateIsCaused}
use Rattle.store_migration.specs.Migrates.{FitsVersion2}
use Rattle.store.specs.declared.refusal.Refused as refusal
use Rattle.store.specs.declared.refusal.ReopenFault.{ReopenFault}
use Rattle.store.specs.declared.refusal.ReopenFault.TheVariants.{Close, Open, Adopt}
use Rattle.store.specs.declared.refusal.OpenFault.{OpenFault}
use Rattle.store.specs.declared.refusal.OpenFault.TheVariants.{Unconnected, Refused}
use Rattle.store.specs.Adopts.{AdoptIsCaused, CopiesTo, IsCreatedOn, IsNoStore, IsUnlimited, KeepsStoreOn, MigratesStoreOn, StaysIfOpen, WasStoreOn}

-- memory ran out while files were opened
abbrev pub WantsMemory : OpenError → Type 0
WantsMemory OutOfMemory = Unit {0}
WantsMemory (Io error) = error_kind error ≡ kind.OutOfMemory
WantsMemory Busy = ⊥
WantsMemory HotJournal = ⊥

-- ---- at a path

-- what `Unknown` says of files, in place of all that they may hold
abbrev pub nothing_held : Image
nothing_held = record { log = []; db = [] }

-- The files held this as they were opened. A connection found a store of this profile there, which is taken as it was, or one of version 1,
-- which is migrated.
pub record IsTakenFrom {D : Type 0} {g : Ghosts D} (profile : Profile) (image : Image) (store : Held (FileStore D g)) : Type 0 where
  pub conn : Held (FileStore D g)
  pub found : FindsIn image (file_state conn)
  pub opened : IsOpened conn
  pub was : WasStoreOn conn store profile
  pub unchanged : KeepsStoreOn conn store
  pub migrated : MigratesStoreOn conn store

-- or it found no table there, and a store of this profile is made
pub record IsMadeFrom {D : Type 0} {g : Ghosts D} (profile : Profile) (image : Image) (store : Held (FileStore D g)) : Type 0 where
  pub conn : Held (FileStore D g)
  pub found : FindsIn image (file_state conn)
  pub opened : IsOpened conn
  pub created : IsCreatedOn conn store profile

-- the same if the disk returned what was written
abbrev pub IsTakenFromOn : {D : Type 0} {g : Ghosts D} → Profile → Image → Held (FileStore D g) → Type 0
IsTakenFromOn profile image store = HasCleanDisk (file_state store) → IsTakenFrom profile image store

abbrev pub IsMadeFromOn : {D : Type 0} {g : Ghosts D} → Profile → Image → Held (FileStore D g) → Type 0
IsMadeFromOn profile image store = HasCleanDisk (file_state store) → IsMadeFrom profile image store

abbrev pub fault_of : {D : Type 0} {g : Ghosts D} → OpenFault D g → StoreFault
fault_of (Unconnected fault) = fault
fault_of (Refused refused) = refused.fault

-- The fault is for the tables and rows only of a connection that was opened, and where it is still open it shows no store of this profile,
-- if the disk returned what was written.
abbrev pub IsNotOpened : {D : Type 0} {g : Ghosts D} → Profile → OpenFault D g → Type 0
IsNotOpened profile (Unconnected fault) = fault ≢ Schema
IsNotOpened profile (Refused refused) =
    HasCleanDisk (file_state refused.conn) → IsTrue (file_state refused.conn).is_open → refused.fault ≡ Schema →
    IsNoStore profile (file_state refused.conn).now

-- the fault is never for the tables and rows
abbrev pub IsNotMade : {D : Type 0} {g : Ghosts D} → OpenFault D g → Type 0
IsNotMade (Unconnected fault) = fault ≢ Schema
IsNotMade (Refused refused) = HasCleanDisk (file_state refused.conn) → refused.fault ≢ Schema

-- Why a connection that was opened on files that held this is not taken for a store, if what is migrated fits; no limit on steps is the
-- cause. If it is for the tables and rows, what the files held is no store of this profile. The connection comes back as it was, if it is
-- still open. Why none could be opened is not said.
pub record RefusesToOpenForCause {D : Type 0} {g : Ghosts D} (profile : Profile) (image : Image) (refused : refusal.Refused D g) : Type 0 where
  pub conn : Held (FileStore D g)
  pub found : FindsIn image (file_state conn)
  pub opened : IsOpened conn
  pub unlimited : IsUnlimited (file_state conn)
  pub stays : StaysIfOpen (file_state conn) (file_state refused.conn)
  pub neither : refused.fault ≡ Schema → IsNoStore profile (file_state conn).now
  pub caused : FitsVersion2 (file_state conn).now → AdoptIsCaused (file_state conn) (file_state refused.conn) refused.fault

abbrev pub IsNotOpenedForCause : {D : Type 0} {g : Ghosts D} → Profile → Image → OpenFault D g → Type 0
IsNotOpenedForCause profile image (Unconnected fault) = ⊤
IsNotOpenedForCause profile image (Refused refused) = HasCleanDisk (file_state refused.conn) → RefusesToOpenForCause profile image refused

-- the same where a store is made in an empty database
pub record RefusesToMakeForCause {D : Type 0} {g : Ghosts D} (image : Image) (refused : refusal.Refused D g) : Type 0 where
  pub conn : Held (FileStore D g)
  pub found : FindsIn image (file_state conn)
  pub opened : IsOpened conn
  pub unlimited : IsUnlimited (file_state conn)
  pub stays : StaysIfOpen (file_state conn) (file_state refused.conn)
  pub caused : CreateIsCaused (file_state conn) (file_state refused.conn) refused.fault

abbrev pub IsNotMadeForCause : {D : Type 0} {g : Ghosts D} → Image → OpenFault D g → Type 0
IsNotMadeForCause image (Unconnected fault) = ⊤
IsNotMadeForCause image (Refused refused) = HasCleanDisk (file_state refused.conn) → RefusesToMakeForCause image refused

-- ---- again

abbrev pub reopen_fault : {D : Type 0} {g : Ghosts D} → ReopenFault D g → StoreFault
reopen_fault (Close fault left) = fault
reopen_fault (Open fault left) = fault
reopen_fault (Adopt refused) = refused.fault

-- what is left are the files of a close, unharmed
pub record LeavesClosed {D : Type 0} {g : Ghosts D} (old : Held (FileStore D g)) (left : Leftover D g) : Type 0 where
  pub files : Files D
  pub copied : CopiesTo old files
  pub unharmed : IsCleanLeft left → LeavesFiles files left

-- if the disk returned what was written, a connection that is not taken for a store again shows, while it is open, what the store
-- held, and the fault is not for its tables and rows
abbrev pub StillHolds : {D : Type 0} {g : Ghosts D} → Held (FileStore D g) → refusal.Refused D g → Type 0
StillHolds old refused =
    HasCleanDisk (file_state refused.conn) → (held : Holdings) → IsStoreOf (file_state old).now held →
    (refused.fault ≢ Schema) × (IsTrue (file_state refused.conn).is_open → IsStoreOf (file_state refused.conn).now held)

-- why files are not closed, and why they are not opened: the fault is that of an error with such a cause
abbrev pub ClosesForCause : {D : Type 0} {g : Ghosts D} → Held (FileStore D g) → FileStore D g → StoreFault → Type 0
ClosesForCause old last fault = IsClean (view last) → (error : Error) × (fault ≡ fault_from error) × FailsToClose old last error

abbrev pub OpensForCause : {D : Type 0} {g : Ghosts D} → Files D → Leftover D g → StoreFault → Type 0
OpensForCause files left fault = IsCleanLeft left → (error : Error) × (fault ≡ fault_from error) × FailsToOpenFiles files left error

-- why files that were opened again are not taken for a store: over the connection that was opened on what the close gave back, the fault
-- has a cause
pub record AdoptsAgainForCause {D : Type 0} {g : Ghosts D} (old : Held (FileStore D g)) (refused : refusal.Refused D g) : Type 0 where
  pub files : Files D
  pub again : Held (FileStore D g)
  pub copied : CopiesTo old files
  pub found : Finds files again
  pub opened : IsOpened again
  pub unlimited : IsUnlimited (file_state again)
  pub caused : AdoptIsCaused (file_state again) (file_state refused.conn) refused.fault

-- of a store that is closed, and not opened or taken for one again
abbrev pub ReopensForCause : {D : Type 0} {g : Ghosts D} → Held (FileStore D g) → ReopenFault D g → Type 0
ReopensForCause old (Close fault left) = ClosesForCause old left fault
ReopensForCause {D} old (Open fault left) = (files : Files D) × CopiesTo old files × OpensForCause files left fault
ReopensForCause old (Adopt refused) = HasCleanDisk (file_state refused.conn) → AdoptsAgainForCause old refused

-- What is left of a store that is not taken for one again.
abbrev pub FailsToReopen : {D : Type 0} {g : Ghosts D} → Held (FileStore D g) → ReopenFault D g → Type 0
FailsToReopen old (Close fault left) = (fault ≢ Schema) × IsClosed old left
FailsToReopen old (Open fault left) = (fault ≢ Schema) × LeavesClosed old left
FailsToReopen old (Adopt refused) = StillHolds old refused
