use Rattle.sqlite.specs.Files.{file_state}
use Rattle.relying_verdicts.specs.declared.fault.Fault.TheVariants.{Store as OfStore}
use Rattle.cli_store.proofs.Storing.{finds_none, lists, lists_none, not_read}
use Rattle.cli_store.proofs.keeper.list_in.Goals as goal

pub returns-in-Ok-probe-clause-lists : goal.returns-in-Ok-probe-clause-lists
returns-in-Ok-probe-clause-lists g c clean =
    lists (file_state c.args.store.now.conn) (file_state c.read_listing.new.conn) (file_state c.probe.new.store.conn)
    c.probe.ensures.stays c.probe.ensures.survives c.in-Ok.ensures.survives c.in-Ok.all (c.in-Ok-probe.ensures.open clean) c.in-Ok.ensures.reads c.in-Ok.ensures.shows clean

pub returns-in-Err-probe-clause-lists : goal.returns-in-Err-probe-clause-lists
returns-in-Err-probe-clause-lists g c =
    lists_none (file_state c.args.store.now.conn) (file_state c.read_listing.new.conn) (file_state c.probe.new.store.conn)
    c.probe.ensures.stays c.probe.ensures.survives c.in-Ok.ensures.survives c.in-Ok.all c.refused.result c.in-Ok.ensures.reads c.refused.ensures

pub returns-in-Err-clause-lists : goal.returns-in-Err-clause-lists
returns-in-Err-clause-lists g c =
    finds_none (file_state c.args.store.now.conn) (file_state c.read_listing.new.conn) (file_state c.failure_of.new.store.conn)
    c.failure_of.ensures.stays c.failure_of.ensures.survives (OfStore c.in-Err.fault) c.failure_of.result
    (not_read (file_state c.args.store.now.conn) (file_state c.read_listing.new.conn) c.in-Err.fault c.held_laws.ensures
    c.in-Err.ensures.settled.0 c.in-Err.ensures.settled.1 c.in-Err.ensures.reads)
    c.in-Err.ensures.survives c.failure_of.ensures.told
