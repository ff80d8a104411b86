use Rattle.sqlite.specs.Files.{file_state}
use Rattle.cli.proofs.Seeing.{not_taken, taken}
use Rattle.cli.proofs.at_path.take_in.Goals as goal

pub returns-in-Ok : goal.returns-in-Ok
returns-in-Ok g c = λ found.
    taken (g.S.Stores.places c.args.source.now) c.args.path.now (file_state c.args.store.conn) (file_state c.put-counts.new.self.conn)
    c.close_store.ensures.leaves c.close_store.ensures.lasts (record { opened = c.requires.open; settled = c.requires.settled; durable = c.requires.durable })
    c.args.facts.now c.in-Ok.counts c.in-Ok.ensures.puts found

pub returns-in-Err : goal.returns-in-Err
returns-in-Err g c = λ found.
    not_taken (g.S.Stores.places c.args.source.now) c.args.path.now (file_state c.args.store.conn) (file_state c.put-counts.new.self.conn)
    c.close_store.ensures.leaves c.close_store.ensures.lasts (record { opened = c.requires.open; settled = c.requires.settled; durable = c.requires.durable })
    c.args.facts.now c.in-Err.fault c.failed.result c.failed.ensures c.in-Err.ensures.puts c.in-Err.ensures.survives found
