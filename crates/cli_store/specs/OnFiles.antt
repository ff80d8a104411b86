-- What is known of stores on files of the system, by what these held as they were opened. No clause of the kit names files by their path: the
-- image is that of the one pair of files that `Start` stands for.
use Rattle.std.specs.Prelude.{◌≡◌, ◌⊎◌, ⊤}
use Rattle.sqlite_disk.specs.declared.Disk.{Ghosts}
use Rattle.sqlite_store.specs.declared.store.FileStore.{FileStore}
use Rattle.sqlite_wal.specs.Recovery.{Image}
use Rattle.sqlite_trees.specs.Tree.{Trees}
use Rattle.sqlite.specs.Effect.{Database, IsDatabase}
use Rattle.sqlite.specs.Files.{AreFoundIn, HoldsDatabase, file_state}
use Rattle.sqlite.specs.Held.{Held}
use Rattle.statements_facts.specs.declared.profile.Profile.{Profile}
use Rattle.statements_facts.specs.Statement.{Holdings}
use Rattle.store_maps.specs.Held.{IsStoreOf}
use Rattle.store_adoption.specs.Creates.{HasTables}
use Rattle.store_adoption.specs.Version1.{IsVersion1, IsVersion1Of}
use Rattle.store_sql.specs.Tables.{no_schema}
use Rattle.store.specs.Adopts.{IsStoreOn}
use Rattle.store.specs.Opens.{IsTakenFromOn}
use Rattle.store.specs.declared.refusal.OpenFault.{OpenFault}
use Rattle.store.specs.declared.refusal.OpenFault.TheVariants.{Unconnected, Refused}
use Rattle.cli_store.specs.Standing.{IsIntact, Places, Standing, database, nothing, refusal}

-- the files stand for this database
pub record IsHeldBy (image : Image) (db : Database) : Type 0 where
  pub holds : (trees : Trees) → HoldsDatabase image trees → db.trees ≡ trees
  pub reads : AreFoundIn image db.trees
  pub sound : IsDatabase db

-- A store shows the database that was found as it was; or that was one of version 1, and what it held is held by version 2.
abbrev pub IsTakenAs : Database → Database → Type 0
IsTakenAs db now = (now ≡ db) ⊎ (IsVersion1 db × ((held : Holdings) → IsVersion1Of db held → IsStoreOf now held))

-- What stands at paths, if the files held this. A database that was opened there shows what the files held, if the disk returned what was
-- written. Whether there is a file, and why a store refuses, no clause says of files of the system: that may be anything.
abbrev pub stands_on : Image → Standing
stands_on image path (database seen) = IsIntact seen → (db : Database) × IsHeldBy image db × IsTakenAs db seen.now
stands_on image path nothing = ⊤
stands_on image path (refusal why) = ⊤

-- Once files are closed no clause says anything of them: any may be left, and last.
abbrev pub places_on : Profile → Image → Places
places_on profile image = record {
  profile = profile;
  stands = stands_on image;
  leaves = λ path seen. ⊤;
  lasts = λ path left. ⊤;
}

-- ---- connections

-- a store of the profile that is taken from files that held this
abbrev pub IsFoundOn : {D : Type 0} {g : Ghosts D} → Profile → Image → Held (FileStore D g) → Type 0
IsFoundOn profile image conn = IsTakenFromOn profile image conn × IsStoreOn profile conn

-- no store can be made in place of one that was not opened: there is no connection, or it has tables
abbrev pub HasNoRoom : {D : Type 0} {g : Ghosts D} → OpenFault D g → Type 0
HasNoRoom (Unconnected fault) = Unit {0}
HasNoRoom (Refused refused) = HasTables (file_state refused.conn).now

-- or one can be: it has none
abbrev pub HasRoom : {D : Type 0} {g : Ghosts D} → OpenFault D g → Type 0
HasRoom (Unconnected fault) = ⊥
HasRoom (Refused refused) = (file_state refused.conn).now.schema ≡ no_schema
