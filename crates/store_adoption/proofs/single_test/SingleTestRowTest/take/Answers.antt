use Rattle.store_adoption.specs.Cells.{IsSingleCells}
use Rattle.store_adoption.proofs.Following.{all_here}
use Rattle.store_adoption.proofs.single_test.SingleTestRowTest.take.Goals as goal

pub returns-clause-refused : goal.returns-clause-refused
returns-clause-refused c e rows later passed formed = c.is_single.ensures.schema e (all_here (IsSingleCells c.args.self.now.next) rows c.args.row.now later formed)
