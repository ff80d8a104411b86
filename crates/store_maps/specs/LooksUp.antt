-- What a look-up does.
use Rattle.std.specs.Prelude.{◌≡◌, Result, Ok, Err, IfErr, IsTrue}
use Rattle.sqlite_trees.specs.declared.store.Store.{Ghosts}
use Rattle.sqlite.specs.declared.transaction.Transaction.{Transaction}
use Rattle.sqlite.specs.State.{State, HasCleanDisk, KeepsCommit}
use Rattle.statements_facts.specs.Statement.{Holdings}
use Rattle.store_sql.specs.Inside.{inside}
use Rattle.store_sql.specs.declared.fault.StoreFault.{StoreFault}
use Rattle.store_sql.specs.declared.fault.StoreFault.TheVariants.{Store, Schema}
use Rattle.store_sql.specs.Cause.{MayRefuse}
use Rattle.store_rows.specs.Steps.{Stays}
use Rattle.store_maps.specs.Held.{IsStoreOf}

-- what is found is what is held, and all is as it was
pub record IsFoundIn {A : Type 0} (old new : State) (Is : Holdings → A → Type 0) (found : A) : Type 0 where
  pub keeps : KeepsCommit old new
  pub mode : IsTrue new.in_transaction
  pub held : (held : Holdings) → IsStoreOf old.now held → Stays old new × Is held found

-- the last commit stays, and no fault is for the form of the rows of a store
pub record FailsIn (old new : State) (fault : StoreFault) : Type 0 where
  pub keeps : KeepsCommit old new
  pub formed : fault ≡ Schema → (held : Holdings) → IsStoreOf old.now held → ⊥

abbrev pub LooksUp : {A : Type 0} → State → State → (Holdings → A → Type 0) → Result A StoreFault → Type 0
LooksUp old new Is (Ok found) = IsFoundIn old new Is found
LooksUp old new Is (Err fault) = FailsIn old new fault

-- the same of a call on a transaction, if the disk has returned what was written
abbrev pub LooksUpInside : {S A : Type 0} → Ghosts S → Transaction S → Transaction S → (Holdings → A → Type 0) → Result A StoreFault → Type 0
LooksUpInside g old new Is result = HasCleanDisk (inside g new) → LooksUp (inside g old) (inside g new) Is result

-- over a store the fault `Store` has a cause
abbrev pub IsCausedOverStore : State → State → StoreFault → Type 0
IsCausedOverStore old new fault = fault ≡ Store → (held : Holdings) → IsStoreOf old.now held → MayRefuse old new

abbrev pub CausedOverStore : {S A : Type 0} → Ghosts S → Transaction S → Transaction S → Result A StoreFault → Type 0
CausedOverStore g old new result = HasCleanDisk (inside g new) → IfErr result (IsCausedOverStore (inside g old) (inside g new))
