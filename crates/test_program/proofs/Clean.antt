-- Disks that return what was written to them.
use Rattle.std.proofs.Common.{◌≡◌, ◌&&◌, Bool, true, false, IsTrue, refl}
use Rattle.sqlite_disk.specs.declared.Disk.{Ghosts}
use Rattle.sqlite_store.specs.declared.store.FileStore.{FileStore}
use Rattle.sqlite.specs.Held.{Held}
use Rattle.sqlite.specs.Files.{file_state}
use Rattle.sqlite.specs.State.{HasCleanDisk}
use Rattle.sqlite_trees.specs.View.{doubt}
use Rattle.sqlite_pool.specs.Pool.{state}

both : (log db : Bool) → IsTrue log → IsTrue db → doubt (log && db) ≡ 0
unfolding doubt
both true true is other = refl
both true false is other = absurd cc
both false db is other = absurd cc

of_both : {D : Type 0} (g : Ghosts D) → ((disk : D) → IsTrue (g.is_clean disk)) → (log db : D) → doubt (g.is_clean log && g.is_clean db) ≡ 0
of_both g always log db = both (g.is_clean log) (g.is_clean db) (always log) (always db)

pub clean : {D : Type 0} {g : Ghosts D} → ((disk : D) → IsTrue (g.is_clean disk)) → (conn : Held (FileStore D g)) → HasCleanDisk (file_state conn)
unfolding state
clean {D} {g} always conn = of_both g always _ _
