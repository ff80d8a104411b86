use Rattle.statements_facts.specs.Fact.{facts_in}
use Rattle.store_taking.proofs.Deliveries.{puts_so}
use Rattle.store_taking.proofs.delivery.put.Goals as goal

pub returns-clause-puts : goal.returns-clause-puts
returns-clause-puts g c clean =
    puts_so _ _ (facts_in c.args.facts.now) c.deliver.result (c.is_autocommit.ensures.settled c.if-not-is_autocommit.false) (c.deliver.ensures.ends clean) c.deliver.ensures.settled
