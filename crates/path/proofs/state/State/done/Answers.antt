use Rattle.path.proofs.Passing.{admits_of, hosts_of}
use Rattle.path.proofs.state.State.done.Goals as goal

pub returns-clause-admits : goal.returns-clause-admits
returns-clause-admits g c = admits_of c.self.view_is _ _ _ _ c.self.invariant

pub returns-clause-hosts : goal.returns-clause-hosts
returns-clause-hosts g c = hosts_of c.self.view_is _ _ _ _ c.self.invariant
