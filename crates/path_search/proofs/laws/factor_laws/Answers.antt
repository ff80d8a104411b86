use Rattle.path_issuers.proofs.Laws.{valid_path_factors, tail_is_right}
use Rattle.path_search.proofs.laws.factor_laws.Goals as goal

pub returns-clause-exact : goal.returns-clause-exact
returns-clause-exact c = valid_path_factors

pub returns-clause-tail : goal.returns-clause-tail
returns-clause-tail c = tail_is_right
