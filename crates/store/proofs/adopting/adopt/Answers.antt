use Rattle.sqlite.specs.Files.{file_state}
use Rattle.store_sql.proofs.Laws.{if_err_then}
use Rattle.store.proofs.Ordered.{adoption_caused, open_in_order}
use Rattle.store.proofs.Over.{adopts}
use Rattle.store.proofs.adopting.adopt.Goals as goal

pub returns-clause-adopts : goal.returns-clause-adopts
returns-clause-adopts g c clean =
    adopts (file_state c.args.conn.now) (file_state c.inspect_live.new.conn) c.inspect_live.result (λ live. open_in_order c.args.conn.now live (c.inspect_live.ensures.settled.0 live) (c.inspect_live.ensures.live live).0)
    (c.inspect_live.ensures.inspects clean)

pub returns-clause-caused : goal.returns-clause-caused
returns-clause-caused g c clean =
    if_err_then c.inspect_live.result _ _ (c.inspect_live.ensures.caused clean) (λ fault caused.
    adoption_caused c.args.conn.now (file_state c.inspect_live.new.conn) fault c.inspect_live.ensures.settled.0 c.inspect_live.ensures.live caused)
