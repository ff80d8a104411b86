use Rattle.cert.specs.Certificate.{seen_certificate}
use Rattle.cert_hosts.proofs.OtherConstraints.{has_taken}
use Rattle.cert_hosts.proofs.taken.take_hosts.Goals as goal

pub returns-clause-taken : goal.returns-clause-taken
returns-clause-taken c = has_taken (seen_certificate c.args.certificate.now) _ _ c.in_ok-hosts.ensures.gives c.leave_others.ensures
