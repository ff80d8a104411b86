use Rattle.path.proofs.Issuers.{signed}
use Rattle.path.proofs.state.State.is_signed_by_issuer.Goals as goal

pub returns : goal.returns
returns g c =
    signed c.self.view_is _ _ _ _ _ c.self.invariant g.V.Verifier.accepts c.judge.result _ c.octets.result.now
    c.certificate-certificate.ensures c.octets.ensures c.judge.ensures
