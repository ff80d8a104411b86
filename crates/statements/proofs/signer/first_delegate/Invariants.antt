use Rattle.std.proofs.Common.{◌≡◌, ◌≤◌, length}
use Rattle.std.specs.List.{find}
use Rattle.cert.specs.Certificate.{seen_certificate}
use Rattle.statements_ocsp.specs.Certificates.{certificates_left}
use Rattle.statements_ocsp.specs.OcspResponse.{certs_left, seen_response}
use Rattle.statements.specs.Responder.{delegate_of, is_responder}
use Rattle.statements.proofs.signer.first_delegate.Given as goal

abbrev pub invariant-loop-certificate : goal.invariant-loop-certificate
invariant-loop-certificate g l =
    (find (is_responder (g.V.Verifier.accepts l.fn.verifier) (seen_certificate l.fn.issuer) (seen_response l.fn.response)) (certificates_left l.certs) ≡ delegate_of (g.V.Verifier.accepts l.fn.verifier) (seen_certificate l.fn.issuer) (seen_response l.fn.response))
    × (length (certs_left l.certs) ≤ length (certs_left l.fn.response.certs))

abbrev pub decreases-loop-certificate : goal.decreases-loop-certificate
decreases-loop-certificate g l = length (certs_left l.certs)
