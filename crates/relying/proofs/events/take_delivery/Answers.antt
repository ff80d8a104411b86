use Rattle.relying.proofs.Happening.{answer_added, delivered_so, pushed}
use Rattle.relying.proofs.events.take_delivery.Goals as goal

pub returns-clause-happens : goal.returns-clause-happens
returns-clause-happens g c clean =
    delivered_so _ _ c.args.issuer.now c.args.statement.now c.args.answers.now.items c.push.new.self.items c.deliver-answer.result _ _ clean c.deliver-answer.ensures.survives
    (pushed c.args.answers.now.items c.push.new.self.items c.deliver-answer.result _ c.in-Ok.is c.push.ensures.items) (c.deliver-answer.ensures.answered clean)

pub returns-clause-added : goal.returns-clause-added
returns-clause-added g c =
    answer_added _ _ c.args.issuer.now c.args.statement.now c.args.answers.now.items c.push.new.self.items c.deliver-answer.result
    (pushed c.args.answers.now.items c.push.new.self.items c.deliver-answer.result _ c.in-Ok.is c.push.ensures.items) c.deliver-answer.ensures.reason
