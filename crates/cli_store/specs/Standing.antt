-- Stores at paths.
use Rattle.std.specs.Prelude.{◌≡◌, ◌≢◌, ◌⊎◌, ℕ, List, [], ◌∷◌, Bool, Contains, IsTrue}
use Rattle.sqlite_disk.specs.declared.Disk.{Ghosts}
use Rattle.sqlite.specs.Effect.{Database}
use Rattle.sqlite.specs.Files.{file_state}
use Rattle.sqlite.specs.State.{HasCleanDisk, State}
use Rattle.sqlite_trees.specs.View.{doubt}
use Rattle.store_adoption.specs.Inspects.{IsStoreUnder}
use Rattle.statements_facts.specs.Coming.{after_all}
use Rattle.statements_facts.specs.Fact.{Fact}
use Rattle.statements_facts.specs.Statement.{Holdings, empty_under}
use Rattle.statements_facts.specs.declared.profile.Profile.{Profile}
use Rattle.store_maps.specs.Held.{AreTreesOf, IsStoreOf}
use Rattle.sqlite_trees.specs.Tree.{Trees}
use Rattle.store_sql.specs.Tables.{no_schema}
use Rattle.store.specs.declared.handle.Store as handle
use Rattle.store_sql.specs.declared.fault.StoreFault.TheVariants.{Store, Schema, Memory}
use Rattle.relying_verdicts.specs.declared.fault.Fault.{Fault}
use Rattle.relying_verdicts.specs.declared.fault.Fault.TheVariants.{Store as OfStore, Memory as WithoutMemory}
use Rattle.cli_failures.specs.declared.failure.StoreRefusal.{StoreRefusal}
use Rattle.cli_failures.specs.declared.failure.StoreRefusal.TheVariants as refused
use Rattle.cli_failures.specs.declared.failure.Failure.{Failure}
use Rattle.cli_failures.specs.declared.failure.Failure.TheVariants.{Unreadable, StoreFailed, NoMemory}

-- what is seen of a connection to a database: what it holds, whether it is open, and whether the disk has returned so far what was
-- written to it
pub record Seen : Type 0 where
  pub now : Database
  pub is_open : Bool
  pub is_clean : Bool

abbrev pub seen_of : State → Seen
seen_of s = record { now = s.now; is_open = s.is_open; is_clean = s.is_clean }

-- the connection is open, if the disk has returned what was written
abbrev pub IsOpenIfClean : State → Type 0
IsOpenIfClean s = HasCleanDisk s → IsTrue s.is_open

-- a crash at this moment leaves the trees of a store that holds one of these
abbrev pub LeavesOneOf : State → List Holdings → Type 0
LeavesOneOf s left =
    (trees : Trees) → s.may_leave trees → (held : Holdings) × Contains left held × AreTreesOf held trees

-- the same, if the disk has returned what was written
abbrev pub LeavesIfClean : State → List Holdings → Type 0
LeavesIfClean s left = HasCleanDisk s → LeavesOneOf s left

-- what is seen of the connection of a store
abbrev pub seen_in : {D : Type 0} {g : Ghosts D} → handle.Store D g → Seen
seen_in store = seen_of (file_state store.conn)

-- the disk has returned what was written
abbrev pub IsIntact : Seen → Type 0
IsIntact seen = doubt seen.is_clean ≡ 0

-- What is met where the store of a path is looked for: a connection to its database, no file that can be read, or a store that refuses.
pub data Met : Type 0 where
  database : Seen → Met
  nothing : Met
  refusal : StoreRefusal → Met

-- what stands at paths: a relation of a path and of what is met there
abbrev pub Standing : Type 1
Standing = List ℕ → Met → Type 0

-- how stores are left: a relation of a path and of what is seen of the connection to its database in the end
abbrev pub Leaving : Type 1
Leaving = List ℕ → Seen → Type 0

-- what lasts: a relation of a path and of holdings, one of which is found there when the database is opened next
abbrev pub Lasting : Type 1
Lasting = List ℕ → List Holdings → Type 0

-- what is known of the places of stores, which are all of one profile
pub record Places : Type 1 where
  pub profile : Profile
  pub stands : Standing
  pub leaves : Leaving
  pub lasts : Lasting

-- This was seen when the database of the path was opened, and where the disk returned what was written it is a store of the profile.
abbrev pub IsFound : Places → List ℕ → Seen → Type 0
IsFound at path old = at.stands path (database old) × (IsIntact old → IsStoreUnder at.profile old.now)

-- no file was met at the path, or a database without tables
abbrev pub MeetsNoTable : Standing → List ℕ → Type 0
MeetsNoTable stands path =
    stands path nothing
    ⊎ ((empty : Seen) × stands path (database empty) × (IsIntact empty → empty.now.schema ≡ no_schema))

-- So it was, and this was seen of the database where a store was made: where the disk returned what was written it is a store of the profile
-- that holds nothing.
abbrev pub IsMade : Places → List ℕ → Seen → Type 0
IsMade at path old = MeetsNoTable at.stands path × (IsIntact old → IsStoreOf old.now (empty_under at.profile))

-- one or the other
abbrev pub IsFoundOrMade : Places → List ℕ → Seen → Type 0
IsFoundOrMade at path old = IsFound at path old ⊎ IsMade at path old

-- ---- no store

-- what a fault of a store or of a party is for a run
abbrev pub told_of : Fault → Failure
told_of (OfStore Store) = StoreFailed refused.Store
told_of (OfStore Schema) = StoreFailed refused.Schema
told_of (OfStore Memory) = NoMemory
told_of WithoutMemory = NoMemory

-- No store was opened or made: that was met at the path, or memory ran out.
abbrev pub MakesNoStore : Standing → List ℕ → Failure → Type 0
MakesNoStore stands path (StoreFailed why) = stands path (refusal why)
MakesNoStore stands path NoMemory = Unit {0}
MakesNoStore stands path _ = ⊥

-- or no file that can be read was met there
abbrev pub IsNotFound : Standing → List ℕ → Failure → Type 0
IsNotFound stands path (Unreadable named) = (named.now ≡ path) × stands path nothing
IsNotFound stands path failure = MakesNoStore stands path failure

-- ---- no answer

-- memory ran out, or a store refused
abbrev pub IsOfStore : Failure → Type 0
IsOfStore failure = (failure ≡ NoMemory) ⊎ ((why : StoreRefusal) × (failure ≡ StoreFailed why))

-- A store that was opened so did not answer, and was left. As long as its connection is open it holds what it held, and it does not refuse
-- for its tables. Behind what it held, one of those lasts.
pub record IsNoAnswer (at : Places) (path : List ℕ) (May : Holdings → List Holdings) (old : Seen) (failure : Failure) : Type 0 where
  pub why : IsOfStore failure
  pub new : Seen
  pub left : at.leaves path new
  pub kept :
      IsIntact new → IsTrue new.is_open → (held : Holdings) → IsStoreOf old.now held →
      IsStoreOf new.now held × (failure ≢ StoreFailed refused.Schema)
  pub lasts : IsIntact new → (held : Holdings) → IsStoreOf old.now held → at.lasts path (May held)

-- what was held lasts
abbrev pub the_same : Holdings → List Holdings
the_same held = held ∷ []

-- what was held lasts, or all facts have come to it
abbrev pub with_or_without : List Fact → Holdings → List Holdings
with_or_without facts held = after_all held facts ∷ held ∷ []

-- a store that was found so did not answer
abbrev pub IsUnanswered : (Seen → Type 0) → Places → List ℕ → (Holdings → List Holdings) → Failure → Type 0
IsUnanswered found at path May failure = (old : Seen) × found old × IsNoAnswer at path May old failure
