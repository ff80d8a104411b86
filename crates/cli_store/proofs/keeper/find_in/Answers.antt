use Rattle.sqlite.specs.Files.{file_state}
use Rattle.path.specs.Reading.{seen_query}
use Rattle.cli_store.proofs.Storing.{finds, finds_none, from_open, was_clean}
use Rattle.cli_store.proofs.keeper.find_in.Goals as goal

pub returns-in-Ok-clause-finds : goal.returns-in-Ok-clause-finds
returns-in-Ok-clause-finds g c =
    finds (file_state c.args.store.now.conn) (file_state c.verdict_of.new.conn) (g.V.Verifier.accepts c.args.verifier.now)
    (seen_query c.args.query.now) c.in-Ok.verdict c.verdict_laws.ensures.invalid c.in-Ok.ensures.open c.in-Ok.ensures.looks c.in-Ok.ensures.survives

pub returns-in-Err-clause-finds : goal.returns-in-Err-clause-finds
returns-in-Err-clause-finds g c =
    finds_none (file_state c.args.store.now.conn) (file_state c.verdict_of.new.conn) (file_state c.failure_of.new.store.conn)
    c.failure_of.ensures.stays c.failure_of.ensures.survives
    c.in-Err.fault c.failure_of.result c.in-Err.ensures.looks c.in-Err.ensures.survives c.failure_of.ensures.told
