use Rattle.path_search.proofs.Ordering.{candidates_are_ordered, first_valid_is_one}
use Rattle.path_search.proofs.Tails.{tail_grows}
use Rattle.path_search.proofs.laws.search_laws.Goals as goal

pub returns-clause-one : goal.returns-clause-one
returns-clause-one c = first_valid_is_one

pub returns-clause-grows : goal.returns-clause-grows
returns-clause-grows c = tail_grows

pub returns-clause-ordered : goal.returns-clause-ordered
returns-clause-ordered c = candidates_are_ordered
