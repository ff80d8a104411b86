use Rattle.std.proofs.Common.{inl}
use Rattle.sqlite_wal.specs.Files.{image_at}
use Rattle.cli_store.proofs.Standing.{filled}
use Rattle.cli_store.proofs.stores.open_or_fill.Goals as goal

pub returns-in-Ok-clause-store : goal.returns-in-Ok-clause-store
returns-in-Ok-clause-store g c = inl (c.in-Ok.ensures.found, c.in-Ok.ensures.store)

pub returns-in-Err-clause-store : goal.returns-in-Err-clause-store
returns-in-Err-clause-store g c = filled c.args.profile (image_at g.S.Start) c.fill_or_tell.result c.fill_or_tell.ensures.empty
