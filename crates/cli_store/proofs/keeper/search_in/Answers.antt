use Rattle.sqlite.specs.Files.{file_state}
use Rattle.path_issuers.specs.View.{seen_search}
use Rattle.cli_store.proofs.Storing.{finds_none, path_from_open, searches}
use Rattle.cli_store.proofs.keeper.search_in.Goals as goal

pub returns-in-Ok-clause-open : goal.returns-in-Ok-clause-open
returns-in-Ok-clause-open g c =
    path_from_open (g.V.Verifier.accepts c.args.verifier.now) (seen_search c.args.search.now) c.args.budget c.in-Ok.finding
    (file_state c.args.store.now.conn) (file_state c.find_over.new.conn) c.in-Ok.ensures.open

pub returns-in-Ok-clause-finds : goal.returns-in-Ok-clause-finds
returns-in-Ok-clause-finds g c =
    searches (file_state c.args.store.now.conn) (file_state c.find_over.new.conn) (g.V.Verifier.accepts c.args.verifier.now)
    (seen_search c.args.search.now) c.args.budget c.in-Ok.finding c.in-Ok.ensures.open c.in-Ok.ensures.looks c.in-Ok.ensures.survives

pub returns-in-Err-clause-finds : goal.returns-in-Err-clause-finds
returns-in-Err-clause-finds g c =
    finds_none (file_state c.args.store.now.conn) (file_state c.find_over.new.conn) (file_state c.failure_of.new.store.conn)
    c.failure_of.ensures.stays c.failure_of.ensures.survives
    c.in-Err.fault c.failure_of.result c.in-Err.ensures.looks c.in-Err.ensures.survives c.failure_of.ensures.told
