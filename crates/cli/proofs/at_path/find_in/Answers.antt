use Rattle.sqlite.specs.Files.{file_state}
use Rattle.path_issuers.specs.View.{seen_search}
use Rattle.cli.proofs.Seeing.{not_checked, searched}
use Rattle.cli.proofs.at_path.find_in.Goals as goal

pub returns-in-Ok : goal.returns-in-Ok
returns-in-Ok g c = λ found.
    searched (g.S.Stores.places c.args.source.now) c.args.path.now (file_state c.args.store.conn) (file_state c.find_over-finding.new.conn)
    c.close_store.ensures.leaves c.close_store.ensures.lasts (record { opened = c.requires.open; settled = c.requires.settled; durable = c.requires.durable })
    (g.V.Verifier.accepts c.args.verifier.now) (seen_search c.args.search.now) c.args.budget c.in-Ok.finding c.in-Ok.ensures.looks c.in-Ok.ensures.survives found

pub returns-in-Err : goal.returns-in-Err
returns-in-Err g c = λ found.
    not_checked (g.S.Stores.places c.args.source.now) c.args.path.now (file_state c.args.store.conn) (file_state c.find_over-finding.new.conn)
    c.close_store.ensures.leaves c.close_store.ensures.lasts (record { opened = c.requires.open; settled = c.requires.settled; durable = c.requires.durable })
    c.in-Err.fault c.failed.result c.failed.ensures c.in-Err.ensures.looks c.in-Err.ensures.survives found
