-- What a crash leaves of a store is a store.
use Rattle.std.specs.Prelude.{◌⊎◌, List, [], ◌∷◌}
use Rattle.sqlite_disk.specs.declared.Disk.{Ghosts}
use Rattle.sqlite_wal.specs.Recovery.{Image}
use Rattle.sqlite_store.specs.declared.store.FileStore.{FileStore}
use Rattle.sqlite_store.specs.FileStore.{recovers, state as store_state, view}
use Rattle.sqlite_trees.specs.Tree.{Trees}
use Rattle.sqlite.specs.Held.{Held, IsConnected}
use Rattle.sqlite.specs.State.{HasCleanDisk}
use Rattle.sqlite.specs.Files.{HoldsDatabase, IsOpened, file_state}
use Rattle.sqlite.specs.Start.{FindsIn}
use Rattle.statements_facts.specs.declared.profile.Profile.{Profile}
use Rattle.statements_facts.specs.Statement.{Holdings}
use Rattle.store_maps.specs.Held.{IsStoreOf, AreTreesOf}
use Rattle.store_taking.specs.Delivery.{MayLeaveAfterCrash}
use Rattle.store.specs.Adopts.{KeepsStoreOn}
use Rattle.store.specs.Opens.{IsTakenFrom}

-- a connection that is opened on the trees of a store is that store
abbrev pub StoreTreesAreStore : (D : Type 0) → Ghosts D → Type 0
StoreTreesAreStore D g =
    (conn : Held (FileStore D g)) (held : Holdings) →
    IsOpened conn →
    AreTreesOf held (file_state conn).now.trees →
    IsStoreOf (file_state conn).now held

-- and what is adopted from it holds just that
abbrev pub StoreTreesAreAdopted : (D : Type 0) → Ghosts D → Type 0
StoreTreesAreAdopted D g =
    (conn adopted : Held (FileStore D g)) (held : Holdings) →
    IsOpened conn →
    AreTreesOf held (file_state conn).now.trees →
    KeepsStoreOn conn adopted → HasCleanDisk (file_state adopted) →
    IsStoreOf (file_state adopted).now held

-- a store that is taken from files holds what they held
abbrev pub TakenStoreHoldsWhatFilesHeld : (D : Type 0) → Ghosts D → Type 0
TakenStoreHoldsWhatFilesHeld D g =
    (profile : Profile) (image : Image) (store : Held (FileStore D g)) (trees : Trees) (held : Holdings) →
    HoldsDatabase image trees → AreTreesOf held trees →
    IsTakenFrom profile image store → HasCleanDisk (file_state store) →
    IsStoreOf (file_state store).now held

-- ---- from one run to the next

-- A crash at this moment may leave this in the files of the connection. `IsConnected` is what SQLite's connections keep true of themselves.
pub record IsLeftByCrash {D : Type 0} {g : Ghosts D} (old : Held (FileStore D g)) (image : Image) : Type 0 where
  pub connected : IsConnected (view old.store) (recovers old.store) old.schema old.saved old.in_transaction
  pub clean : HasCleanDisk (file_state old)
  pub left : (store_state old.store).may_leave image

-- a connection that found this in its files shows what the crash may leave, whatever the type of its disk
abbrev pub OpenShowsWhatCrashLeft : (D E : Type 0) → Ghosts D → Ghosts E → Type 0
OpenShowsWhatCrashLeft D E g h =
    (old : Held (FileStore D g)) (image : Image) (conn : Held (FileStore E h)) →
    IsLeftByCrash old image →
    FindsIn image (file_state conn) → IsOpened conn →
    ∥ MayLeaveAfterCrash (file_state old) (file_state conn).now.trees ∥₁

-- it is one of those of the list
abbrev pub IsOneOf : (Holdings → Type 0) → List Holdings → Type 0
IsOneOf P [] = ⊥
IsOneOf P (held ∷ others) = P held ⊎ IsOneOf P others

-- So where the crash may leave the trees of a store that holds one of these, the store that is taken from the files holds one of them. Of a
-- delivery that did not end these are what was held before it, and what would be held after it; of a run `left_by_run` of `relying` lists
-- them.
abbrev pub TakenStoreSurvivesCrash : (D E : Type 0) → Ghosts D → Ghosts E → Type 0
TakenStoreSurvivesCrash D E g h =
    (old : Held (FileStore D g)) (profile : Profile) (image : Image) (store : Held (FileStore E h)) (left : List Holdings) →
    IsLeftByCrash old image →
    ((trees : Trees) → MayLeaveAfterCrash (file_state old) trees → IsOneOf (λ held. AreTreesOf held trees) left) →
    IsTakenFrom profile image store → HasCleanDisk (file_state store) →
    ∥ IsOneOf (λ held. IsStoreOf (file_state store).now held) left ∥₁
