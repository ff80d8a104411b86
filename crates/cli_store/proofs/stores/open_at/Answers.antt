use Rattle.sqlite_wal.specs.Files.{image_at}
use Rattle.cli_store.proofs.Standing.{found, not_found}
use Rattle.cli_store.proofs.stores.open_at.Goals as goal

pub returns-clause-found : goal.returns-clause-found
returns-clause-found g c = found c.args.profile (image_at g.S.Start) c.args.path.now c.open-2.result c.open-2.ensures.found

pub returns-clause-fails : goal.returns-clause-fails
returns-clause-fails g c = not_found (image_at g.S.Start) c.args.path.now c.open-2.result c.open-2.ensures.fails
