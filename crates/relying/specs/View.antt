-- A party, as its store shows it.
use Rattle.sqlite_disk.specs.declared.Disk.{Ghosts}
use Rattle.sqlite.specs.Files.{file_state}
use Rattle.sqlite.specs.State.{State}
use Rattle.relying.specs.declared.node.Node.{Node}

-- the state of the connection that its store is on
abbrev pub stored : {V D : Type 0} {g : Ghosts D} → Node V D g → State
stored node = file_state node.store.conn
