use Rattle.relying.proofs.Surviving.{node_survives_crash}
use Rattle.relying.proofs.Agreed.{node_agrees_with_party, node_is_exact, nodes_agree}
use Rattle.relying.proofs.Alike.{nodes_find_the_same}
use Rattle.relying.proofs.agreement.node_laws.Goals as goal

pub returns-clause-agree : goal.returns-clause-agree
returns-clause-agree g c = nodes_agree c.verdict_laws.ensures.one c.agreement_laws.ensures.agree

pub returns-clause-party : goal.returns-clause-party
returns-clause-party g c = node_agrees_with_party c.verdict_laws.ensures.one c.agreement_laws.ensures.agree c.composition_laws.ensures.each

pub returns-clause-exact : goal.returns-clause-exact
returns-clause-exact g c = node_is_exact c.verdict_laws.ensures.one c.verdict_laws.ensures.valid

pub returns-clause-survives : goal.returns-clause-survives
returns-clause-survives g c = node_survives_crash c.crash_laws.ensures.survives

pub returns-clause-find : goal.returns-clause-find
returns-clause-find g c = nodes_find_the_same c.finding_laws.ensures.one c.finding_laws.ensures.agree
