use Rattle.path.proofs.Issuers.{named}
use Rattle.path.proofs.state.State.is_named_by_issuer.Goals as goal

pub returns : goal.returns
returns g c = named c.self.view_is _ _ _ _ _ c.self.invariant c.matches.result _ c.certificate.ensures c.matches.ensures.decides
