use Rattle.std.proofs.lemmas.Result.{err_from_is_err_and}
use Rattle.cert.specs.Certificate.{seen_certificate}
use Rattle.path.proofs.WideCertificates.{points_refused, hosts_refused}
use Rattle.path.proofs.in_profile.read_wide.Goals as goal

pub returns-in_err-take_points : goal.returns-in_err-take_points
returns-in_err-take_points c =
    let p = err_from_is_err_and c.from_residual-in_err-take_points.result c.from_residual-in_err-take_points.ensures.1 in
    rw (p.1, p.2) (points_refused c.args.octets.now (seen_certificate c.in_ok-certificate.certificate) c.in_err-take_points.field-0.0 c.in_ok-certificate.ensures c.in_err-take_points.ensures.refused)

pub returns-in_err-take_hosts : goal.returns-in_err-take_hosts
returns-in_err-take_hosts c =
    let p = err_from_is_err_and c.from_residual-in_err-take_hosts.result c.from_residual-in_err-take_hosts.ensures.1 in
    rw (p.1, p.2) (hosts_refused c.args.octets.now _ _ c.in_err-take_hosts.field-0.0 c.in_ok-certificate.ensures c.in_ok-take_points.ensures.taken c.in_err-take_hosts.ensures.refused)
