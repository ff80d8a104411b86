use Rattle.path_search.proofs.Explaining.{named_anchors, tail_factors, target_factors}
use Rattle.path_search.proofs.laws.why_not_laws.Goals as goal

pub returns-clause-target : goal.returns-clause-target
returns-clause-target c = target_factors

pub returns-clause-tail : goal.returns-clause-tail
returns-clause-tail c = tail_factors

pub returns-clause-anchors : goal.returns-clause-anchors
returns-clause-anchors c = named_anchors
