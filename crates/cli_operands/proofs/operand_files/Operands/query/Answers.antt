use Rattle.std.proofs.Common.{inr, ap, sym, ◌∙◌}
use Rattle.std.proofs.lemmas.Result.{err_from_is_err_and}
use Rattle.cert.specs.Certificate.{certificate, seen_certificate}
use Rattle.cli_operands.proofs.operand_files.Operands.query.Goals as goal

pub returns-in_err-path-clause-fails : goal.returns-in_err-path-clause-fails
returns-in_err-path-clause-fails c =
    let p = err_from_is_err_and c.from_residual-in_err-path.result c.from_residual-in_err-path.ensures.1 in
    rw (p.1, p.2) (inr ((seen_certificate c.in_ok-anchor.anchor, ap certificate (sym c.as_slice.ensures.value) ∙ c.in_ok-anchor.ensures.reads), c.in_err-path.ensures.fails))
