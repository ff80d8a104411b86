-- The numbers and names of faults of a store.
use Rattle.std.specs.Prelude.{ℕ, List, codes}
use Rattle.sqlite.specs.declared.error.Error.{Error}
use Rattle.sqlite.specs.declared.error.Error.TheVariants.{SqliteFailure}
use Rattle.sqlite.specs.declared.error.ErrorCode.TheVariants.{OutOfMemory}
use Rattle.store_sql.specs.declared.fault.StoreFault.{StoreFault}
use Rattle.store_sql.specs.declared.fault.StoreFault.TheVariants.{Store, Schema, Memory}

abbrev pub store_fault_number : StoreFault → ℕ
store_fault_number Store = 71
store_fault_number Schema = 72
store_fault_number Memory = 73

abbrev pub store_fault_name : StoreFault → List ℕ
store_fault_name Store = codes "Store"
store_fault_name Schema = codes "Schema"
store_fault_name Memory = codes "Memory"

-- what a refusal of the database is: that memory ran out, or another
abbrev pub fault_from : Error → StoreFault
fault_from (SqliteFailure OutOfMemory) = Memory
fault_from _ = Store
