use Rattle.std.proofs.Common.{length}
use Rattle.test_program.proofs.shelf.+fill.Given as goal

abbrev pub decreases-fill : goal.decreases-fill
decreases-fill l = length l.rows.now
