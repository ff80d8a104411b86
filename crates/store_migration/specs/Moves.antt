-- What the calls inside the transaction do on the way from version 1 to version 2, if the disk has returned what was written.
use Rattle.std.specs.Prelude.{◌≡◌, ◌++◌, ◌∷◌, [], ℕ, List, Result, IfErr, map}
use Rattle.sqlite_trees.specs.declared.store.Store.{Ghosts}
use Rattle.sqlite.specs.declared.transaction.Transaction.{Transaction}
use Rattle.sqlite.specs.Effect.{Database}
use Rattle.sqlite.specs.State.{State, HasCleanDisk}
use Rattle.statements_facts.specs.Statement.{Holdings}
use Rattle.statements_facts.specs.declared.scope.Scope.TheVariants.{All}
use Rattle.statements_facts.specs.Listed.{ListedSerial}
use Rattle.store_sql.specs.declared.fault.StoreFault.{StoreFault}
use Rattle.store_sql.specs.declared.fault.StoreFault.TheVariants.{Store}
use Rattle.store_sql.specs.Cause.{MayRefuse}
use Rattle.store_sql.specs.Inside.{inside}
use Rattle.store_rows.specs.Contents.{Contents}
use Rattle.store_rows.specs.Room.{CrlsLeaveAnId, EntriesFit}
use Rattle.store_rows.specs.Seen.{seen_head}
use Rattle.store_maps.specs.Held.{IsStoreOf}
use Rattle.store_taking.specs.Lists.{with_list}
use Rattle.store_taking.specs.Passing.{StepsTo, StepsIn}
use Rattle.store_adoption.specs.declared.unscoped.UnscopedList.{UnscopedList}
use Rattle.store_adoption.specs.declared.unscoped.UnscopedLists.{UnscopedLists}
use Rattle.store_adoption.specs.Seen.{seen_unscoped_list, seen_crls, seen_entries}
use Rattle.store_adoption.specs.Version1.{UnscopedCrl, UnscopedEntry, listed_under}
use Rattle.store_migration.specs.declared.grouped.IssuersEntry.{IssuersEntry}
use Rattle.store_migration.specs.Grouped.{seen_unscoped_entry, HasSameLists}
use Rattle.store_migration.specs.Moved.{IsOld, HasNewTables, HasMoved, IsNext}

-- as a list for all certificates
abbrev pub with_unscoped : UnscopedList → List ListedSerial → Contents → Contents
with_unscoped list revoked = with_list list.issuer All (seen_head list.head) revoked

-- a list and its entries have room
abbrev pub HasRoomForList : List ListedSerial → Contents → Type 0
HasRoomForList revoked it = CrlsLeaveAnId it × EntriesFit revoked

-- the entries of each issuer fit into a list of version 2
abbrev pub ListsFit : List UnscopedEntry → Type 0
ListsFit entries = (issuer : ℕ) → EntriesFit (listed_under entries issuer)

-- over a database that is so the fault `Store` has a cause: the database may refuse
abbrev pub StopIsCaused : (Database → Holdings → Type 0) → State → State → StoreFault → Type 0
StopIsCaused Before old new fault = fault ≡ Store → (held : Holdings) → Before old.now held → MayRefuse old new

module _ {S : Type 0} (g : Ghosts S) (old new : Transaction S) where
  -- the tables of version 2 are made
  abbrev pub AddsTables : {A : Type 0} → Result A StoreFault → Type 0
  AddsTables result = HasCleanDisk (inside g new) → (crls : List UnscopedCrl) (entries : List UnscopedEntry) → StepsTo (inside g old) (inside g new) (IsOld crls entries) (λ done. HasNewTables crls entries) result

  -- the version is 2 then
  abbrev pub SetsVersion : {A : Type 0} → Result A StoreFault → Type 0
  SetsVersion result = HasCleanDisk (inside g new) → (crls : List UnscopedCrl) (entries : List UnscopedEntry) → StepsTo (inside g old) (inside g new) (HasNewTables crls entries) (λ done. HasMoved crls entries []) result

  -- both, before any list is moved
  abbrev pub Prepares : {A : Type 0} → Result A StoreFault → Type 0
  Prepares result = HasCleanDisk (inside g new) → (crls : List UnscopedCrl) (entries : List UnscopedEntry) → StepsTo (inside g old) (inside g new) (IsOld crls entries) (λ done. HasMoved crls entries []) result

  -- one list more is moved
  abbrev pub MovesList : {A : Type 0} → UnscopedList → List IssuersEntry → Result A StoreFault → Type 0
  MovesList list sorted result =
      HasCleanDisk (inside g new) → (crls moved : List UnscopedCrl) (entries : List UnscopedEntry) → HasSameLists (map seen_unscoped_entry sorted) entries → IsNext crls moved (seen_unscoped_list list)
      → StepsTo (inside g old) (inside g new) (HasMoved crls entries moved) (λ done. HasMoved crls entries (moved ++ seen_unscoped_list list ∷ [])) result

  abbrev pub MovesLists : {A : Type 0} → List UnscopedList → List IssuersEntry → Result A StoreFault → Type 0
  MovesLists lists sorted result =
      HasCleanDisk (inside g new) → (entries : List UnscopedEntry) → HasSameLists (map seen_unscoped_entry sorted) entries
      → StepsTo (inside g old) (inside g new) (HasMoved (map seen_unscoped_list lists) entries []) (λ done. HasMoved (map seen_unscoped_list lists) entries (map seen_unscoped_list lists)) result

  abbrev pub MovesAll : {A : Type 0} → UnscopedLists → Result A StoreFault → Type 0
  MovesAll all result = StepsIn g old new (HasMoved (seen_crls all) (seen_entries all) []) (λ done. HasMoved (seen_crls all) (seen_entries all) (seen_crls all)) result

  -- the database is a store of version 2 then, which holds what version 1 held
  abbrev pub BecomesStore : {A : Type 0} → UnscopedLists → Result A StoreFault → Type 0
  BecomesStore all result = StepsIn g old new (IsOld (seen_crls all) (seen_entries all)) (λ done. IsStoreOf) result

  -- ---- why these calls stop

  abbrev pub StopsForCause : {A : Type 0} → (Database → Holdings → Type 0) → Result A StoreFault → Type 0
  StopsForCause Before result = HasCleanDisk (inside g new) → IfErr result (StopIsCaused Before (inside g old) (inside g new))

  abbrev pub PreparesForCause : {A : Type 0} → Result A StoreFault → Type 0
  PreparesForCause result = (crls : List UnscopedCrl) (entries : List UnscopedEntry) → StopsForCause (IsOld crls entries) result

  abbrev pub SetsVersionForCause : {A : Type 0} → Result A StoreFault → Type 0
  SetsVersionForCause result = (crls : List UnscopedCrl) (entries : List UnscopedEntry) → StopsForCause (HasNewTables crls entries) result

  abbrev pub MovesListForCause : {A : Type 0} → UnscopedList → List IssuersEntry → Result A StoreFault → Type 0
  MovesListForCause list sorted result =
      (crls moved : List UnscopedCrl) (entries : List UnscopedEntry) → HasSameLists (map seen_unscoped_entry sorted) entries → ListsFit entries → IsNext crls moved (seen_unscoped_list list)
      → StopsForCause (HasMoved crls entries moved) result

  abbrev pub MovesListsForCause : {A : Type 0} → List UnscopedList → List IssuersEntry → Result A StoreFault → Type 0
  MovesListsForCause lists sorted result =
      (entries : List UnscopedEntry) → HasSameLists (map seen_unscoped_entry sorted) entries → ListsFit entries → StopsForCause (HasMoved (map seen_unscoped_list lists) entries []) result

  abbrev pub MovesAllForCause : {A : Type 0} → UnscopedLists → Result A StoreFault → Type 0
  MovesAllForCause all result = ListsFit (seen_entries all) → StopsForCause (HasMoved (seen_crls all) (seen_entries all) []) result

  abbrev pub BecomesStoreForCause : {A : Type 0} → UnscopedLists → Result A StoreFault → Type 0
  BecomesStoreForCause all result = ListsFit (seen_entries all) → StopsForCause (IsOld (seen_crls all) (seen_entries all)) result
