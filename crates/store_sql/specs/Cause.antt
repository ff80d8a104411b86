-- Why the database refuses, unless memory runs out.
use Rattle.std.specs.Prelude.{◌≡◌, ◌⊎◌, false, Result, IfErr, IsSome}
use Rattle.sqlite_disk.specs.Disk.{MoreFaults}
use Rattle.sqlite_trees.specs.declared.store.Store.{Ghosts}
use Rattle.sqlite.specs.Effect.{Database}
use Rattle.sqlite.specs.declared.error.Error.{Error}
use Rattle.sqlite.specs.declared.transaction.Transaction.{Transaction}
use Rattle.sqlite.specs.State.{State, HasCleanDisk}
use Rattle.store_sql.specs.declared.fault.StoreFault.TheVariants.{Store}
use Rattle.store_sql.specs.declared.origin.Origin.{Origin}
use Rattle.store_sql.specs.Fault.{fault_from}
use Rattle.store_sql.specs.Inside.{inside}
use Rattle.store_sql.specs.Tables.{store_schema}

-- the connection was shut, the disk failed or refused, or a limit on steps is set
abbrev pub MayRefuse : State → State → Type 0
MayRefuse old new = (old.is_open ≡ false) ⊎ (MoreFaults old.faults new.faults ⊎ IsSome old.step_limit)

-- the tables are those of version 2
abbrev pub IsOfVersion2 : Database → Type 0
IsOfVersion2 db = (origin : Origin) × (db.schema ≡ store_schema origin)

-- over the tables of version 2 the database refuses only for one of these causes, or if memory runs out
abbrev pub RefusesForCause : {S A : Type 0} → Ghosts S → Transaction S → Transaction S → Result A Error → Type 0
RefusesForCause g old new result =
    HasCleanDisk (inside g new) → IsOfVersion2 (inside g old).now → IfErr result (λ error. fault_from error ≡ Store → MayRefuse (inside g old) (inside g new))
