use Rattle.std.proofs.Common.{inl, inr, refl}
use Rattle.std.proofs.KnownBytes.{Keeps-refl}
use Rattle.std.proofs.lemmas.Result.{err_from_is_err_and}
use Rattle.cli.proofs.listing.list.Goals as goal

pub returns-in-Ok-clause-done : goal.returns-in-Ok-clause-done
returns-in-Ok-clause-done g c =
    (c.in_ok-text.text.items, c.in_ok-text.ensures.listed, rw c.as_slice.ensures.value at c.in-Ok.ensures.written)

pub returns-in_err-text-clause-fails : goal.returns-in_err-text-clause-fails
returns-in_err-text-clause-fails g c =
    let p = err_from_is_err_and c.from_residual.result c.from_residual.ensures.1 in
    rw (p.1, p.2) (inl (c.in_err-text.ensures.fails, Keeps-refl (g.O.Write.contents c.args.out.now)))

pub returns-clause-fails : goal.returns-clause-fails
returns-clause-fails g c = inr (refl, (c.in_ok-text.text.items, c.in_ok-text.ensures.listed, rw c.as_slice.ensures.value at c.in-Err.ensures.front))
