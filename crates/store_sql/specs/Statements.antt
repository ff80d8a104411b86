-- What a crash may leave.
use Rattle.std.specs.Prelude.{◌≡◌, IsTrue}
use Rattle.sqlite.specs.State.{State, Survives}
use Rattle.sqlite_trees.specs.Tree.{Trees}

-- a crash leaves what it could leave before
abbrev pub CommitsNothing : State → State → Type 0
CommitsNothing old new = Survives old new (λ _. ⊥)

-- while the connection is open a crash leaves the last commit, and nothing else
abbrev pub IsDurable : State → Type 0
IsDurable s = IsTrue s.is_open → (trees : Trees) → s.may_leave trees → trees ≡ s.committed.trees
