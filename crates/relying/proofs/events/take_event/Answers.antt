use Rattle.std.proofs.Common.{ap}
use Rattle.std.proofs.lemmas.Result.{IfOk-weaker}
use Rattle.store_adoption.specs.Creates.{IsSettled}
use Rattle.store_sql.specs.Statements.{IsDurable}
use Rattle.relying.specs.Restart.{HasRestarted}
use Rattle.relying.specs.Run.{seen_event}
use Rattle.relying.specs.View.{stored}
use Rattle.relying.proofs.Happening.{if_all_ok, nothing_added, restarted_so}
use Rattle.relying.proofs.events.take_event.Goals as goal

pub returns-in-Restart-clause-happens : goal.returns-in-Restart-clause-happens
returns-in-Restart-clause-happens g c =
    if_all_ok c.restart.result (HasRestarted c.args.node) (λ next. IsSettled (stored next)) (λ next. IsDurable (stored next)) _
    (λ next restarts settled durable clean. restarted_so _ _ _ c.args.answers.now.items _ _ (ap seen_event c.in-Restart.is) settled durable (restarts clean))
    c.restart.ensures.restarts c.restart.ensures.settled c.restart.ensures.durable

pub returns-in-Restart-clause-added : goal.returns-in-Restart-clause-added
returns-in-Restart-clause-added g c =
    IfOk-weaker c.restart.result (HasRestarted c.args.node) _
    (λ next restarts. nothing_added _ _ _ c.args.answers.now.items (ap seen_event c.in-Restart.is)) c.restart.ensures.restarts

pub returns-in-Restart-clause-clean : goal.returns-in-Restart-clause-clean
returns-in-Restart-clause-clean g c = IfOk-weaker c.restart.result (HasRestarted c.args.node) _ (λ next restarts clean. (restarts clean).was_clean) c.restart.ensures.restarts
