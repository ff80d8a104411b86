use Rattle.sqlite.specs.Files.{file_state}
use Rattle.path.specs.Reading.{seen_query}
use Rattle.cli.proofs.Seeing.{checked, not_checked}
use Rattle.cli.proofs.at_path.check_in.Goals as goal

pub returns-in-Ok : goal.returns-in-Ok
returns-in-Ok g c = λ found.
    checked (g.S.Stores.places c.args.source.now) c.args.path.now (file_state c.args.store.conn) (file_state c.verdict_of-verdict.new.conn)
    c.close_store.ensures.leaves c.close_store.ensures.lasts (record { opened = c.requires.open; settled = c.requires.settled; durable = c.requires.durable })
    (g.V.Verifier.accepts c.args.verifier.now) (seen_query c.args.query.now) c.in-Ok.verdict c.in-Ok.ensures.looks c.in-Ok.ensures.survives found

pub returns-in-Err : goal.returns-in-Err
returns-in-Err g c = λ found.
    not_checked (g.S.Stores.places c.args.source.now) c.args.path.now (file_state c.args.store.conn) (file_state c.verdict_of-verdict.new.conn)
    c.close_store.ensures.leaves c.close_store.ensures.lasts (record { opened = c.requires.open; settled = c.requires.settled; durable = c.requires.durable })
    c.in-Err.fault c.failed.result c.failed.ensures c.in-Err.ensures.looks c.in-Err.ensures.survives found
