use Rattle.std.proofs.Common.{◌≡◌, drop}
use Rattle.test_program.specs.Shelves.{statements_at}
use Rattle.test_program.proofs.shelf.rows_of.Given as goal

abbrev pub invariant-loop-kept : goal.invariant-loop-kept
invariant-loop-kept l = statements_at (drop l.kept-index l.stores) l.path ≡ statements_at l.stores l.path
