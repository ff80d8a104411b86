-- A restart.
use Rattle.sqlite_disk.specs.declared.Disk.{Ghosts}
use Rattle.sqlite.specs.State.{HasCleanDisk}
use Rattle.store.specs.Adopts.{Restarts}
use Rattle.relying.specs.declared.node.Node.{Node}
use Rattle.relying.specs.View.{stored}

-- a party that was closed and opened again, if the disk returned what was written
abbrev pub HasRestarted : {V D : Type 0} {g : Ghosts D} → Node V D g → Node V D g → Type 0
HasRestarted old new = HasCleanDisk (stored new) → Restarts (stored old) (stored new)
