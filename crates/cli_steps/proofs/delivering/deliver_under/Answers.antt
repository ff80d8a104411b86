use Rattle.std.proofs.Common.{inl, refl}
use Rattle.std.proofs.lemmas.Result.{err_from_is_err_and}
use Rattle.cert.specs.Certificate.{seen_certificate}
use Rattle.cli_steps.proofs.Passed.{deliver_under}
use Rattle.cli_steps.proofs.delivering.deliver_under.Goals as goal

pub returns-in_err-statement : goal.returns-in_err-statement
returns-in_err-statement g c =
    let p = err_from_is_err_and c.from_residual.result c.from_residual.ensures.1 in
    rw (p.1, p.2) (inl (inl c.in_err-statement.ensures.fails, refl))

pub returns : goal.returns
returns g c =
    deliver_under g.R.TakeFacts.takes c.args.receiver.now c.deliver_statement.new.receiver (g.S.Source.holds c.args.source.now) (g.V.Verifier.accepts c.args.verifier.now)
    (seen_certificate c.args.issuer.now) c.in_ok-statement.statement.items c.args.file.now c.deliver_statement.result c.in_ok-statement.ensures.reads (rw (c.profile.ensures, c.as_slice.ensures.value) at c.deliver_statement.ensures)
