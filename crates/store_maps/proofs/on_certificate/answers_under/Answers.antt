use Rattle.std.proofs.Common.{arith}
use Rattle.std.proofs.lemmas.Result.{err_from_is_err_and}
use Rattle.sqlite.specs.State.{HasCleanDisk}
use Rattle.store_sql.specs.Inside.{inside}
use Rattle.store_maps.proofs.Chains.{finds_then, fails_then, caused_then}
use Rattle.store_maps.proofs.on_certificate.answers_under.Goals as goal

pub returns-clause-finds : goal.returns-clause-finds
returns-clause-finds g c clean =
    finds_then _ _ _ _ _ _ c.in_ok-ocsp.ocsp _ _ (c.in_ok-all.ensures.finds (omega (arith, clean, c.find_single.ensures.survives.clean))) (c.in_ok-ocsp.ensures.finds clean)
    (λ it lists said. (lists, said))

pub returns-in_err-ocsp-clause-finds : goal.returns-in_err-ocsp-clause-finds
returns-in_err-ocsp-clause-finds g c clean =
    let p = err_from_is_err_and c.from_residual-in_err-ocsp.result c.from_residual-in_err-ocsp.ensures.1 in
    rw (p.1, p.2) (fails_then _ _ _ _ _ _ (c.in_ok-all.ensures.finds (omega (arith, clean, c.find_single.ensures.survives.clean))) (c.in_err-ocsp.ensures.finds clean))

pub returns-in_err-ocsp-clause-caused : goal.returns-in_err-ocsp-clause-caused
returns-in_err-ocsp-clause-caused g c clean =
    let p = err_from_is_err_and c.from_residual-in_err-ocsp.result c.from_residual-in_err-ocsp.ensures.1 in
    let mid = inside g.S.Store c.lists_under.new.tx in
    let before : HasCleanDisk mid = omega (arith, clean, c.find_single.ensures.survives.clean) in
    rw (p.1, p.2) (caused_then (inside g.S.Store c.args.tx.now) mid (inside g.S.Store c.find_single.new.tx) _ _ _ c.lists_under.ensures.survives c.find_single.ensures.survives before (c.in_ok-all.ensures.finds before) (c.in_err-ocsp.ensures.caused clean))
