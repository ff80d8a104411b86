-- A new store holds nothing.
use Rattle.std.specs.Prelude.{Result, Ok, Err}
use Rattle.sqlite_trees.specs.declared.store.Store.{Ghosts}
use Rattle.sqlite.specs.declared.transaction.Transaction.{Transaction}
use Rattle.sqlite.specs.State.{State, HasCleanDisk}
use Rattle.statements_facts.specs.declared.profile.Profile.{Profile}
use Rattle.statements_facts.specs.Statement.{empty_under}
use Rattle.store_sql.specs.Inside.{inside}
use Rattle.store_sql.specs.declared.fault.StoreFault.{StoreFault}
use Rattle.store_sql.specs.Tables.{no_schema}
use Rattle.store_rows.specs.Making.{IsEmptyWith, Advances, FailsOverStore}
use Rattle.store_maps.specs.Held.{IsStoreOf}

-- inside the transaction an empty database is a store of this profile that holds nothing
abbrev pub MakesStore : {A : Type 0} → State → State → Profile → Result A StoreFault → Type 0
MakesStore old new profile (Ok done) = Advances old new × (IsEmptyWith old.now no_schema → IsStoreOf new.now (empty_under profile))
MakesStore old new profile (Err fault) = FailsOverStore old new fault

-- the same of a call on a transaction, if the disk has returned what was written
abbrev pub MakesStoreIn : {S A : Type 0} → Ghosts S → Transaction S → Transaction S → Profile → Result A StoreFault → Type 0
MakesStoreIn g old new profile result = HasCleanDisk (inside g new) → MakesStore (inside g old) (inside g new) profile result
