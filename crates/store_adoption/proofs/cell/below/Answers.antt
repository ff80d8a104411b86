use Rattle.store_adoption.proofs.Cells.{natural_refused}
use Rattle.store_adoption.proofs.cell.below.Goals as goal

pub returns-clause-schema : goal.returns-clause-schema
returns-clause-schema c e = natural_refused c.args.row.now c.args.at c.args.bound (c.natural.ensures.schema e)
