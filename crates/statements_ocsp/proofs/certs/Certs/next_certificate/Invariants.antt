use Rattle.std.proofs.Common.{◌≡◌, ◌≤◌, length}
use Rattle.statements_ocsp.specs.Certificates.{certificates_left, PassesOver}
use Rattle.statements_ocsp.specs.OcspResponse.{certs_left}
use Rattle.statements_ocsp.proofs.certs.Certs.next_certificate.Given as goal

abbrev pub invariant-loop-value : goal.invariant-loop-value
invariant-loop-value l =
    (certificates_left l.self ≡ certificates_left l.fn.self) × (length (certs_left l.self) ≤ length (certs_left l.fn.self))
    × (certs_left l.behind ≡ certs_left l.self) × PassesOver (certs_left l.fn.self) (certs_left l.self)

abbrev pub decreases-loop-value : goal.decreases-loop-value
decreases-loop-value l = length (certs_left l.behind)
