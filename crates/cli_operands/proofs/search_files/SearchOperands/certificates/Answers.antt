use Rattle.std.proofs.Common.{inl, inr, ap, map, sym, ◌∙◌}
use Rattle.std.proofs.lemmas.Result.{err_from_is_err_and}
use Rattle.cert.specs.Certificate.{seen_certificate}
use Rattle.path.specs.InProfile.{certificate_in}
use Rattle.cli_operands.proofs.search_files.SearchOperands.certificates.Goals as goal

pub returns-in_err-anchors-clause-fails : goal.returns-in_err-anchors-clause-fails
returns-in_err-anchors-clause-fails c =
    let p = err_from_is_err_and c.from_residual-in_err-anchors.result c.from_residual-in_err-anchors.ensures.1 in
    rw (p.1, p.2) (inr ((seen_certificate c.in_ok-target.target, ap (certificate_in c.args.self.now.profile) (sym c.as_slice-octets.ensures.value) ∙ c.in_ok-target.ensures.reads), inl c.in_err-anchors.ensures.fails))

pub returns-in_err-bag-clause-fails : goal.returns-in_err-bag-clause-fails
returns-in_err-bag-clause-fails c =
    let p = err_from_is_err_and c.from_residual-in_err-bag.result c.from_residual-in_err-bag.ensures.1 in
    rw (p.1, p.2)
    (inr (
      (seen_certificate c.in_ok-target.target, ap (certificate_in c.args.self.now.profile) (sym c.as_slice-octets.ensures.value) ∙ c.in_ok-target.ensures.reads),
      inr ((map seen_certificate c.in_ok-anchors.anchors.items, c.in_ok-anchors.ensures.reads, c.in_ok-anchors.ensures.all), c.in_err-bag.ensures.fails),
    ))
