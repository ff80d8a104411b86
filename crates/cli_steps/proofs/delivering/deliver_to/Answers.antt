use Rattle.std.proofs.Common.{inl, refl}
use Rattle.std.proofs.lemmas.Result.{err_from_is_err_and}
use Rattle.statements_facts.specs.declared.profile.Profile.TheVariants.{Stated}
use Rattle.cert.specs.Certificate.{seen_certificate}
use Rattle.cli_operands.proofs.Laws.{no_certificate, unread_certificate}
use Rattle.cli_steps.proofs.Passed.{deliver_to}
use Rattle.cli_steps.proofs.delivering.deliver_to.Goals as goal

pub returns-in_err-octets : goal.returns-in_err-octets
returns-in_err-octets g c =
    let p = err_from_is_err_and c.from_residual.result c.from_residual.ensures.1 in
    rw (p.1, p.2) (inl (inl (unread_certificate Stated (g.S.Source.holds c.args.source.now) c.args.issuer.now _ c.in_err-octets.ensures.fails), refl))

pub returns-in_err-certificate : goal.returns-in_err-certificate
returns-in_err-certificate g c =
    let p = err_from_is_err_and c.from_residual-in_err-certificate.result c.from_residual-in_err-certificate.ensures.1 in
    rw (p.1, p.2) (inl (
      inl (no_certificate Stated Stated (g.S.Source.holds c.args.source.now) c.in_ok-octets.octets.items c.args.issuer.now _ c.in_ok-octets.ensures.reads
          (rw c.as_slice.ensures.value at c.in_err-certificate.ensures.fails)),
      refl,
    ))

pub returns : goal.returns
returns g c =
    deliver_to g.R.TakeFacts.takes c.args.receiver.now c.deliver_under.new.receiver (g.S.Source.holds c.args.source.now) (g.V.Verifier.accepts c.args.verifier.now)
    c.in_ok-octets.octets.items (seen_certificate c.in_ok-certificate.certificate) c.args.issuer.now c.args.file.now c.deliver_under.result c.in_ok-octets.ensures.reads
    (rw c.as_slice.ensures.value at c.in_ok-certificate.ensures.reads) c.deliver_under.ensures
