-- A store over files becomes one of the wide profile, if the disk has returned what was written.
use Rattle.std.specs.Prelude.{Result, IfErr}
use Rattle.sqlite.specs.Files.{file_state}
use Rattle.sqlite.specs.Held.{Held}
use Rattle.sqlite.specs.State.{HasCleanDisk}
use Rattle.sqlite_disk.specs.declared.Disk.{Ghosts}
use Rattle.sqlite_store.specs.declared.store.FileStore.{FileStore}
use Rattle.store_sql.specs.declared.fault.StoreFault.{StoreFault}
use Rattle.store_migration.specs.Widens.{MayLeaveWidened, WidenIsCaused, Widens}

module _ {D : Type 0} {g : Ghosts D} (old new : Held (FileStore D g)) where
  abbrev pub WidensOn : {A : Type 0} → Result A StoreFault → Type 0
  WidensOn result = HasCleanDisk (file_state new) → Widens (file_state old) (file_state new) result

  abbrev pub WidensForCauseOn : {A : Type 0} → Result A StoreFault → Type 0
  WidensForCauseOn result = HasCleanDisk (file_state new) → IfErr result (WidenIsCaused (file_state old) (file_state new))

  -- a crash leaves what it could leave before, or the wide store
  abbrev pub MayLeaveWide : Type 0
  MayLeaveWide = MayLeaveWidened (file_state old) (file_state new)
