use Rattle.std.proofs.Common.{subst}
use Rattle.path_policies.specs.Seen.{seen_query}
use Rattle.path_policies.specs.Walk.{Walks}
use Rattle.path_policies.proofs.Ending.{fails_first}
use Rattle.path_policies.proofs.processing.process_policies.Goals as goal

pub returns-in-Failed : goal.returns-in-Failed
returns-in-Failed c = fails_first (seen_query c.args.query.now) c.in-Failed.number c.in-Failed.reason (subst (Walks (seen_query c.args.query.now)) c.in-Failed.is c.in_ok-number.ensures)
