use Rattle.path_search.proofs.Answering.{permits_exactly, through}
use Rattle.path_search.proofs.authority.Authority.permits_names_of.Goals as goal

pub returns : goal.returns
returns c = through c.permits_names_of.ensures (permits_exactly c.self.view_is _ _ c.self.invariant _)
