-- The tables of a new store.
use Rattle.std.specs.Prelude.{◌≡◌, ◌≢◌, [], Result, Ok, Err, IfErr, IsTrue}
use Rattle.std.specs.List.{AllByRecursion}
use Rattle.sqlite.specs.Effect.{Database}
use Rattle.sqlite.specs.Schema.{Schema}
use Rattle.sqlite_trees.specs.declared.store.Store.{Ghosts}
use Rattle.sqlite.specs.declared.transaction.Transaction.{Transaction}
use Rattle.sqlite.specs.State.{State, HasCleanDisk, KeepsCommit}
use Rattle.statements_facts.specs.declared.profile.Profile.{Profile}
use Rattle.store_sql.specs.Inside.{inside}
use Rattle.store_sql.specs.Cause.{MayRefuse}
use Rattle.store_sql.specs.declared.origin.Origin.TheVariants.{Made}
use Rattle.store_sql.specs.declared.fault.StoreFault.{StoreFault}
use Rattle.store_rows.specs.Holding.{HasContents, no_contents}

-- the tables of this schema, without a row
pub record IsEmptyWith (db : Database) (schema : Schema) : Type 0 where
  pub schema_is : db.schema ≡ schema
  pub empty : AllByRecursion (λ t. db.trees t.tree ≡ []) schema.tables

-- inside the transaction; the last commit is as it was
pub record Advances (old new : State) : Type 0 where
  pub was_open : IsTrue old.is_open
  pub is_open : IsTrue new.is_open
  pub committed_is : new.committed ≡ old.committed
  pub mode : IsTrue new.in_transaction

pub record FailsOverStore (old new : State) (fault : StoreFault) : Type 0 where
  pub keeps : KeepsCommit old new
  pub formed : fault ≢ StoreFault.Schema

-- from one schema to another
abbrev pub Builds : {A : Type 0} → State → State → Schema → Schema → Result A StoreFault → Type 0
Builds old new before after (Ok done) = Advances old new × (IsEmptyWith old.now before → IsEmptyWith new.now after)
Builds old new before after (Err fault) = FailsOverStore old new fault

-- from a schema to the tables of a new store of this profile, which hold nothing
abbrev pub Makes : {A : Type 0} → State → State → Schema → Profile → Result A StoreFault → Type 0
Makes old new before profile (Ok done) = Advances old new × (IsEmptyWith old.now before → HasContents new.now Made (no_contents profile))
Makes old new before profile (Err fault) = FailsOverStore old new fault

-- over these tables, without a row, the fault `Store` has a cause
abbrev pub IsCausedOverEmpty : Schema → State → State → StoreFault → Type 0
IsCausedOverEmpty before old new fault = fault ≡ StoreFault.Store → IsEmptyWith old.now before → MayRefuse old new

-- ---- the same of a call on a transaction, if the disk has returned what was written

abbrev pub BuildsIn : {S A : Type 0} → Ghosts S → Transaction S → Transaction S → Schema → Schema → Result A StoreFault → Type 0
BuildsIn g old new before after result = HasCleanDisk (inside g new) → Builds (inside g old) (inside g new) before after result

abbrev pub MakesIn : {S A : Type 0} → Ghosts S → Transaction S → Transaction S → Schema → Profile → Result A StoreFault → Type 0
MakesIn g old new before profile result = HasCleanDisk (inside g new) → Makes (inside g old) (inside g new) before profile result

abbrev pub BuildsForCauseIn : {S A : Type 0} → Ghosts S → Transaction S → Transaction S → Schema → Result A StoreFault → Type 0
BuildsForCauseIn g old new before result = HasCleanDisk (inside g new) → IfErr result (IsCausedOverEmpty before (inside g old) (inside g new))
