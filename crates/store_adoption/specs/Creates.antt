-- A store is made, and what a crash leaves.
use Rattle.std.specs.Prelude.{◌≡◌, ◌≢◌, Result, Ok, Err, IfErr, IsTrue}
use Rattle.sqlite_trees.specs.declared.store.Store.{Ghosts}
use Rattle.sqlite.specs.Effect.{Database}
use Rattle.sqlite.specs.Held.{Held, state}
use Rattle.sqlite.specs.State.{State, HasCleanDisk, KeepsCommit, Survives}
use Rattle.statements_facts.specs.declared.profile.Profile.{Profile}
use Rattle.statements_facts.specs.Statement.{empty_under}
use Rattle.store_sql.specs.declared.fault.StoreFault.{StoreFault}
use Rattle.store_sql.specs.declared.fault.StoreFault.TheVariants.{Store, Schema}
use Rattle.store_sql.specs.Cause.{MayRefuse}
use Rattle.store_sql.specs.Tables.{no_schema}
use Rattle.store_maps.specs.Held.{IsStoreOf, AreTreesOf}

-- a table, an index or a view is there
abbrev pub HasTables : Database → Type 0
HasTables db = db.schema ≢ no_schema

-- what is shown is committed
abbrev pub IsSettled : State → Type 0
IsSettled s = IsTrue s.is_open → s.now ≡ s.committed

-- the database was empty, and is a store of this profile that holds nothing; this is committed
pub record IsCreated (profile : Profile) (old new : State) : Type 0 where
  pub was_open : IsTrue old.is_open
  pub was_empty : old.now.schema ≡ no_schema
  pub is_open : IsTrue new.is_open
  pub store : IsStoreOf new.now (empty_under profile)
  pub committed_is : new.committed ≡ new.now

abbrev pub Creates : {A : Type 0} → Profile → State → State → Result A StoreFault → Type 0
Creates profile old new (Ok done) = IsCreated profile old new
Creates profile old new (Err fault) = KeepsCommit old new × (fault ≢ Schema)

-- over an empty database the fault `Store` has a cause: the database may refuse
abbrev pub CreateIsCaused : State → State → StoreFault → Type 0
CreateIsCaused old new fault = fault ≡ Store → old.now.schema ≡ no_schema → MayRefuse old new

-- the same of a call on a connection, if the disk has returned what was written
abbrev pub CreatesOn : {S A : Type 0} → Ghosts S → Profile → Held S → Held S → Result A StoreFault → Type 0
CreatesOn g profile old new result = HasCleanDisk (state g new) → Creates profile (state g old) (state g new) result

abbrev pub CreatesForCause : {S A : Type 0} → Ghosts S → Held S → Held S → Result A StoreFault → Type 0
CreatesForCause g old new result = HasCleanDisk (state g new) → IfErr result (CreateIsCaused (state g old) (state g new))

-- a crash leaves what it could leave before, or a store that holds nothing
abbrev pub MayLeaveEmptyStore : Profile → State → State → Type 0
MayLeaveEmptyStore profile old new = Survives old new (AreTreesOf (empty_under profile))
