use Rattle.std.proofs.Common.{inl, inr, refl}
use Rattle.std.proofs.KnownBytes.{Keeps-refl}
use Rattle.std.proofs.lemmas.Result.{err_from_is_err_and}
use Rattle.cli.proofs.comparing.compare.Goals as goal

pub returns-in_err-comparison-clause-fails : goal.returns-in_err-comparison-clause-fails
returns-in_err-comparison-clause-fails g c =
    let p = err_from_is_err_and c.from_residual.result c.from_residual.ensures.1 in
    rw (p.1, p.2) (inl (c.in_err-comparison.ensures.fails, Keeps-refl (g.O.Write.contents c.args.out.now)))

pub returns-in-Err-clause-fails : goal.returns-in-Err-clause-fails
returns-in-Err-clause-fails g c = inr (refl, (_, (c.in_ok-comparison.comparison, c.in_ok-comparison.ensures.compared, refl), c.in-Err.ensures.front))
