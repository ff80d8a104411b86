-- A store becomes one of the wide profile, whole or not at all.
use Rattle.std.specs.Prelude.{◌≡◌, Result, Ok, Err, IfErr, IsTrue}
use Rattle.sqlite.specs.Effect.{Database}
use Rattle.sqlite.specs.Held.{Held, state}
use Rattle.sqlite.specs.State.{State, HasCleanDisk, KeepsCommit, Survives}
use Rattle.sqlite.specs.declared.transaction.Transaction.{Transaction}
use Rattle.sqlite_trees.specs.declared.store.Store.{Ghosts}
use Rattle.sqlite_trees.specs.Tree.{Trees}
use Rattle.statements_facts.specs.declared.profile.Profile.TheVariants.{Wide}
use Rattle.statements_facts.specs.Statement.{Holdings}
use Rattle.store_sql.specs.declared.fault.StoreFault.{StoreFault}
use Rattle.store_sql.specs.declared.fault.StoreFault.TheVariants.{Schema}
use Rattle.store_sql.specs.Cause.{IsOfVersion2}
use Rattle.store_maps.specs.Held.{IsStoreOf, AreTreesOf}
use Rattle.store_taking.specs.Passing.{StepsIn}
use Rattle.store_migration.specs.Moves.{StopIsCaused, StopsForCause}

-- the same facts, under the wide profile
abbrev pub widened : Holdings → Holdings
widened held = record held { profile = Wide }

-- what is held stays, under the wide profile, and is committed
pub record IsWidened (old new : State) : Type 0 where
  pub was_open : IsTrue old.is_open
  pub is_open : IsTrue new.is_open
  pub held : (held : Holdings) → IsStoreOf old.now held → IsStoreOf new.now (widened held)
  pub committed_is : new.committed ≡ new.now

-- or the last commit stays, and the fault is for the tables only where they are not those of a store
abbrev pub Widens : {A : Type 0} → State → State → Result A StoreFault → Type 0
Widens old new (Ok done) = IsWidened old new
Widens old new (Err fault) = KeepsCommit old new × (fault ≡ Schema → (held : Holdings) → IsStoreOf old.now held → ⊥)

-- over a store the fault `Store` has a cause: the database may refuse
abbrev pub WidenIsCaused : State → State → StoreFault → Type 0
WidenIsCaused old new fault = StopIsCaused IsStoreOf old new fault

-- what a crash may leave beside what it could leave before, and that only where the tables are those of a store: the wide store
abbrev pub LeavesWidened : State → Trees → Type 0
LeavesWidened old trees = IsOfVersion2 old.now × ((held : Holdings) → IsStoreOf old.now held → AreTreesOf (widened held) trees)

abbrev pub MayLeaveWidened : State → State → Type 0
MayLeaveWidened old new = Survives old new (LeavesWidened old)

-- ---- the same of a call on a connection, if the disk has returned what was written

abbrev pub WidensOn : {S A : Type 0} → Ghosts S → Held S → Held S → Result A StoreFault → Type 0
WidensOn g old new result = HasCleanDisk (state g new) → Widens (state g old) (state g new) result

abbrev pub WidensForCause : {S A : Type 0} → Ghosts S → Held S → Held S → Result A StoreFault → Type 0
WidensForCause g old new result = HasCleanDisk (state g new) → IfErr result (WidenIsCaused (state g old) (state g new))

-- ---- inside the transaction

abbrev pub IsWideStoreOf : Database → Holdings → Type 0
IsWideStoreOf db held = IsStoreOf db (widened held)

abbrev pub BecomesWide : {S A : Type 0} → Ghosts S → Transaction S → Transaction S → Result A StoreFault → Type 0
BecomesWide g old new result = StepsIn g old new IsStoreOf (λ done. IsWideStoreOf) result

abbrev pub BecomesWideForCause : {S A : Type 0} → Ghosts S → Transaction S → Transaction S → Result A StoreFault → Type 0
BecomesWideForCause g old new result = StopsForCause g old new IsStoreOf result
