use Rattle.sqlite.specs.Files.{file_state}
use Rattle.cli_store.proofs.Storing.{takes, takes_none}
use Rattle.cli_store.proofs.keeper.take_into.Goals as goal

pub returns-in-Ok-clause-takes : goal.returns-in-Ok-clause-takes
returns-in-Ok-clause-takes g c =
    takes (file_state c.args.store.now.conn) (file_state c.put.new.self.conn) c.args.facts.now c.in-Ok.counts c.in-Ok.ensures.puts

pub returns-in-Err-clause-takes : goal.returns-in-Err-clause-takes
returns-in-Err-clause-takes g c =
    takes_none (file_state c.args.store.now.conn) (file_state c.put.new.self.conn) (file_state c.failure_of.new.store.conn)
    c.failure_of.ensures.stays c.failure_of.ensures.survives c.args.facts.now c.in-Err.fault c.failure_of.result
    c.in-Err.ensures.puts c.in-Err.ensures.survives c.failure_of.ensures.told
