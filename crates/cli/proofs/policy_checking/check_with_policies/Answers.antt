use Rattle.std.proofs.Common.{inl, inr, refl}
use Rattle.std.proofs.KnownBytes.{Keeps-refl}
use Rattle.std.proofs.lemmas.Result.{err_from_is_err_and}
use Rattle.cli.proofs.policy_checking.check_with_policies.Goals as goal

pub returns-in_err-told-clause-fails : goal.returns-in_err-told-clause-fails
returns-in_err-told-clause-fails g c =
    let p = err_from_is_err_and c.from_residual.result c.from_residual.ensures.1 in
    rw (p.1, p.2) (inl (c.in_err-told.ensures.fails, Keeps-refl (g.O.Write.contents c.args.out.now)))

pub returns-in-Ok-clause-checked : goal.returns-in-Ok-clause-checked
returns-in-Ok-clause-checked g c = (c.in_ok-told.told, refl, c.in_ok-told.ensures.checked, rw c.as_slice.ensures.value at c.in-Ok.ensures.written)

pub returns-clause-fails : goal.returns-clause-fails
returns-clause-fails g c = inr (refl, (_, (c.in_ok-told.told, c.in_ok-told.ensures.checked, c.as_slice.ensures.value), c.in-Err.ensures.front))
