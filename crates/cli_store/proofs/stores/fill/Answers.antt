use Rattle.cli_store.proofs.Standing.{told_of_store}
use Rattle.cli_store.proofs.stores.fill.Goals as goal

pub returns-clause-fails : goal.returns-clause-fails
returns-clause-fails g c = told_of_store _ c.failed.result c.failed.ensures
