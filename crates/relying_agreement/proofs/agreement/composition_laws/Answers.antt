use Rattle.relying_agreement.proofs.RunLaws.{each_holds_newest, runs_compose, steps_make_a_run}
use Rattle.relying_agreement.proofs.agreement.composition_laws.Goals as goal

pub returns-clause-compose : goal.returns-clause-compose
returns-clause-compose c = runs_compose

pub returns-clause-each : goal.returns-clause-each
returns-clause-each c = each_holds_newest

pub returns-clause-steps : goal.returns-clause-steps
returns-clause-steps c = steps_make_a_run
