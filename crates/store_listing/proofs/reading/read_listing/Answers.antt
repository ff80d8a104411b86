use Rattle.sqlite.specs.Held.{state}
use Rattle.store_listing.proofs.Once.{shows_store}
use Rattle.store_listing.proofs.reading.read_listing.Goals as goal

pub returns-clause-shows : goal.returns-clause-shows
returns-clause-shows g c clean = shows_store (state g.S.Store c.args.conn.now) (state g.S.Store c.read_tables-all.new.conn) c.read_tables-all.result (c.read_tables-all.ensures.reads clean)
