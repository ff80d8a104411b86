-- What a store keeps of a session's statements.
use Rattle.std.specs.Prelude.{◌≡◌, IsTrue}
use Rattle.sqlite.specs.State.{HasCleanDisk, State}
use Rattle.store.specs.Adopts.{StaysIfOpen}
use Rattle.store_maps.specs.Held.{IsStoreOf}
use Rattle.relying_verdicts.specs.declared.fault.Fault.{Fault}
use Rattle.cli_failures.specs.declared.failure.Failure.{Failure}
use Rattle.cli_steps.specs.Keeping.{Keeping}
use Rattle.cli_store.specs.Standing.{LeavesOneOf, told_of}

-- While its connection is open the database is a store that holds this; whether it is open or shut, a crash leaves one of those.
abbrev pub keeping_in : State → Keeping
keeping_in s kept = (IsTrue s.is_open → IsStoreOf s.now kept.held) × LeavesOneOf s kept.left

-- a connection that is open was open, and shows what it showed, if the disk returned what was written
abbrev pub StaysIfClean : State → State → Type 0
StaysIfClean old new = HasCleanDisk new → StaysIfOpen old new

-- the fault is told as it is, and the connection is open
abbrev pub IsToldOverOpen : State → Fault → Failure → Type 0
IsToldOverOpen new fault failure = (failure ≡ told_of fault) × IsTrue new.is_open
