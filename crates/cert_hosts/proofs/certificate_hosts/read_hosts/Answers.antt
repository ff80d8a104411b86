use Rattle.std.proofs.lemmas.Result.{err_from_is_err_and}
use Rattle.cert.specs.Certificate.{seen_certificate}
use Rattle.cert.specs.CertificateHosts.{seen_hosts}
use Rattle.cert_hosts.proofs.WalkedHosts.{gives_fault, gives_hosts, refused_for, says_hosts}
use Rattle.cert_hosts.proofs.certificate_hosts.read_hosts.Goals as goal

pub returns-in_err-lists-clause-refused : goal.returns-in_err-lists-clause-refused
returns-in_err-lists-clause-refused c =
    let p = err_from_is_err_and c.from_residual.result c.from_residual.ensures.1 in
    let fault = c.in_err-lists.field-0.0 in
    rw (p.1, p.2) (refused_for (seen_certificate c.args.certificate.now) fault (gives_fault (seen_certificate c.args.certificate.now) fault c.in_err-lists.ensures))

pub returns-in_err-lists-clause-gives : goal.returns-in_err-lists-clause-gives
returns-in_err-lists-clause-gives c =
    let p = err_from_is_err_and c.from_residual.result c.from_residual.ensures.1 in
    rw (p.1, p.2) (gives_fault (seen_certificate c.args.certificate.now) c.in_err-lists.field-0.0 c.in_err-lists.ensures)

pub returns-clause-reads : goal.returns-clause-reads
returns-clause-reads c =
    says_hosts (seen_certificate c.args.certificate.now) _
    (gives_hosts (seen_certificate c.args.certificate.now) _ _ _ c.in_ok-lists.ensures c.in_ok-mail.ensures c.in_ok-hosts.ensures)

pub returns-clause-gives : goal.returns-clause-gives
returns-clause-gives c = gives_hosts (seen_certificate c.args.certificate.now) _ _ _ c.in_ok-lists.ensures c.in_ok-mail.ensures c.in_ok-hosts.ensures
