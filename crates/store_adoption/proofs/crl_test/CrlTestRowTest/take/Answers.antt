use Rattle.store_adoption.specs.Cells.{IsCrlCells}
use Rattle.store_adoption.proofs.Following.{all_here}
use Rattle.store_adoption.proofs.crl_test.CrlTestRowTest.take.Goals as goal

pub returns-clause-refused : goal.returns-clause-refused
returns-clause-refused c e rows later passed formed = c.is_crl.ensures.schema e (all_here (IsCrlCells c.args.self.now.next) rows c.args.row.now later formed)
