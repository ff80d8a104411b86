use Rattle.sqlite_wal.specs.Files.{image_at}
use Rattle.cli_store.proofs.Standing.{found_or_made, made, no_store, of_store}
use Rattle.cli_store.proofs.stores.open_or_make_at.Goals as goal

pub returns-then-is_missing-clause-found : goal.returns-then-is_missing-clause-found
returns-then-is_missing-clause-found g c = made c.args.profile (image_at g.S.Start) c.args.path.now c.make.result c.make.ensures.empty

pub returns-then-is_missing-clause-fails : goal.returns-then-is_missing-clause-fails
returns-then-is_missing-clause-fails g c = no_store (image_at g.S.Start) c.args.path.now c.make.result (of_store c.make.result c.make.ensures.fails)

pub returns-else-is_missing-clause-found : goal.returns-else-is_missing-clause-found
returns-else-is_missing-clause-found g c = found_or_made c.args.profile (image_at g.S.Start) c.args.path.now c.open_or_fill.result c.open_or_fill.ensures.store

pub returns-else-is_missing-clause-fails : goal.returns-else-is_missing-clause-fails
returns-else-is_missing-clause-fails g c = no_store (image_at g.S.Start) c.args.path.now c.open_or_fill.result c.open_or_fill.ensures.fails
