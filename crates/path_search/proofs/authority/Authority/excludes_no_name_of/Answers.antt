use Rattle.path_search.proofs.Answering.{excludes_exactly, through}
use Rattle.path_search.proofs.authority.Authority.excludes_no_name_of.Goals as goal

pub returns : goal.returns
returns c = through c.excludes_no_name_of.ensures (excludes_exactly c.self.view_is _ _ c.self.invariant _)
