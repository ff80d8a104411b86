use Rattle.std.proofs.Common.{arith}
use Rattle.std.proofs.lemmas.Result.{err_from_is_err_and}
use Rattle.sqlite.specs.State.{HasCleanDisk}
use Rattle.store_sql.specs.Inside.{inside}
use Rattle.store_maps.proofs.Chains.{finds_then, fails_then, caused_then}
use Rattle.store_maps.proofs.on_certificate.lists_under.Goals as goal

pub returns-clause-finds : goal.returns-clause-finds
returns-clause-finds g c clean =
    finds_then _ _ _ _ c.in_ok-all.all _ c.in_ok-own.own _ _ (c.in_ok-all.ensures.finds (omega (arith, clean, c.look_under-2.ensures.survives.clean))) (c.in_ok-own.ensures.finds clean)
    (λ it all own. (all, own))

pub returns-in_err-own-clause-finds : goal.returns-in_err-own-clause-finds
returns-in_err-own-clause-finds g c clean =
    let p = err_from_is_err_and c.from_residual-in_err-own.result c.from_residual-in_err-own.ensures.1 in
    rw (p.1, p.2) (fails_then _ _ _ _ c.in_ok-all.all _ (c.in_ok-all.ensures.finds (omega (arith, clean, c.look_under-2.ensures.survives.clean))) (c.in_err-own.ensures.finds clean))

pub returns-in_err-own-clause-caused : goal.returns-in_err-own-clause-caused
returns-in_err-own-clause-caused g c clean =
    let p = err_from_is_err_and c.from_residual-in_err-own.result c.from_residual-in_err-own.ensures.1 in
    let mid = inside g.S.Store c.look_under.new.tx in
    let before : HasCleanDisk mid = omega (arith, clean, c.look_under-2.ensures.survives.clean) in
    rw (p.1, p.2) (caused_then (inside g.S.Store c.args.tx.now) mid (inside g.S.Store c.look_under-2.new.tx) _ c.in_ok-all.all _ c.look_under.ensures.survives c.look_under-2.ensures.survives before (c.in_ok-all.ensures.finds before) (c.in_err-own.ensures.caused clean))
