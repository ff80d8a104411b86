use Rattle.sqlite.specs.Files.{file_state}
use Rattle.store_sql.proofs.Laws.{if_err_then}
use Rattle.store.proofs.Ordered.{adoption_caused, open_in_order}
use Rattle.store.proofs.Over.{leaves_version_2, takes_over}
use Rattle.store.proofs.adopting.take_over.Goals as goal

pub returns-clause-takes : goal.returns-clause-takes
returns-clause-takes g c clean =
    takes_over c.args.profile (file_state c.args.conn.now) (file_state c.migrate_or_inspect.new.conn) c.migrate_or_inspect.result
    (λ live. open_in_order c.args.conn.now live (c.migrate_or_inspect.ensures.settled.0 live) (c.migrate_or_inspect.ensures.live live).0) (c.migrate_or_inspect.ensures.takes clean)

pub returns-clause-left : goal.returns-clause-left
returns-clause-left g c =
    leaves_version_2 c.args.profile (file_state c.args.conn.now) (file_state c.migrate_or_inspect.new.conn) c.migrate_or_inspect.result
    (λ live. open_in_order c.args.conn.now live (c.migrate_or_inspect.ensures.settled.0 live) (c.migrate_or_inspect.ensures.live live).0) c.migrate_or_inspect.ensures.takes c.migrate_or_inspect.ensures.crash

pub returns-clause-caused : goal.returns-clause-caused
returns-clause-caused g c clean fits =
    if_err_then c.migrate_or_inspect.result _ _ (c.migrate_or_inspect.ensures.caused clean) (λ fault caused.
    adoption_caused c.args.conn.now (file_state c.migrate_or_inspect.new.conn) fault c.migrate_or_inspect.ensures.settled.0 c.migrate_or_inspect.ensures.live (λ e ordered. caused e ordered fits))
