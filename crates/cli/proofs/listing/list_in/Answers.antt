use Rattle.sqlite.specs.Files.{file_state}
use Rattle.cli.proofs.Lines.{listed}
use Rattle.cli.proofs.Unanswered.{not_listed, without_memory}
use Rattle.cli.proofs.listing.list_in.Goals as goal

pub returns-in-Ok-clause-listed : goal.returns-in-Ok-clause-listed
returns-in-Ok-clause-listed g c =
    listed (g.S.Stores.places c.args.source.now) c.args.path.now (file_state c.args.store.conn) (file_state c.read_listing-all.new.conn)
    c.close_store.ensures.leaves c.close_store.ensures.lasts (record { opened = c.requires.open; settled = c.requires.settled; durable = c.requires.durable })
    c.args.at c.in-Ok.all c.listing_lines.result c.in-Ok.ensures.survives c.in-Ok.ensures.reads c.in-Ok.ensures.shows c.listing_lines.ensures.lines

pub returns-in-Err-clause-fails : goal.returns-in-Err-clause-fails
returns-in-Err-clause-fails g c =
    not_listed (g.S.Stores.places c.args.source.now) c.args.path.now (file_state c.args.store.conn) (file_state c.read_listing-all.new.conn)
    c.close_store.ensures.leaves c.close_store.ensures.lasts (record { opened = c.requires.open; settled = c.requires.settled; durable = c.requires.durable })
    c.in-Err.fault c.failed.result c.failed.ensures c.held_laws.ensures c.in-Err.ensures.settled.1 c.in-Err.ensures.survives c.in-Err.ensures.reads

pub returns-in-Ok-clause-fails : goal.returns-in-Ok-clause-fails
returns-in-Ok-clause-fails g c =
    without_memory (g.S.Stores.places c.args.source.now) c.args.path.now (file_state c.args.store.conn) (file_state c.read_listing-all.new.conn)
    c.close_store.ensures.leaves c.close_store.ensures.lasts (record { opened = c.requires.open; settled = c.requires.settled; durable = c.requires.durable })
    c.in-Ok.all c.listing_lines.result c.in-Ok.ensures.survives c.in-Ok.ensures.reads c.listing_lines.ensures.fails
