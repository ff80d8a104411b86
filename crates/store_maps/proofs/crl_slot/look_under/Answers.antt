use Rattle.std.proofs.Common.{arith}
use Rattle.std.proofs.lemmas.Result.{err_from_is_err_and}
use Rattle.sqlite.specs.State.{HasCleanDisk}
use Rattle.store_sql.specs.Inside.{inside}
use Rattle.store_maps.proofs.Chains.{answered_as, finds_then, fails_then, caused_then}
use Rattle.store_maps.proofs.Looking.{no_list, a_list}
use Rattle.store_maps.proofs.crl_slot.look_under.Goals as goal

pub returns-in_default-clause-finds : goal.returns-in_default-clause-finds
returns-in_default-clause-finds g c clean =
    answered_as _ _ _ _ _ _ (c.in_ok-head.ensures.finds clean)
    (λ it is. no_list it c.args.list.now.scope c.args.list.now.issuer c.args.serial.now _ c.in_default.is is)

pub returns-clause-finds : goal.returns-clause-finds
returns-clause-finds g c clean =
    finds_then _ _ _ _ c.in_ok-head.field-0 _ c.in_ok-reason.reason _ _ (c.in_ok-head.ensures.finds (omega (arith, clean, c.find_entry.ensures.survives.clean))) (c.in_ok-reason.ensures.finds clean)
    (λ it is listed. a_list it c.args.list.now.scope c.args.list.now.issuer c.args.serial.now c.in_ok-head.field-0 c.in-Some.head c.in_ok-reason.reason c.with_reason.result c.in-Some.is c.with_reason.ensures is listed)

pub returns-in_err-reason-clause-finds : goal.returns-in_err-reason-clause-finds
returns-in_err-reason-clause-finds g c clean =
    let p = err_from_is_err_and c.from_residual-in_err-reason.result c.from_residual-in_err-reason.ensures.1 in
    rw (p.1, p.2) (fails_then _ _ _ _ c.in_ok-head.field-0 _ (c.in_ok-head.ensures.finds (omega (arith, clean, c.find_entry.ensures.survives.clean))) (c.in_err-reason.ensures.finds clean))

pub returns-in_err-reason-clause-caused : goal.returns-in_err-reason-clause-caused
returns-in_err-reason-clause-caused g c clean =
    let p = err_from_is_err_and c.from_residual-in_err-reason.result c.from_residual-in_err-reason.ensures.1 in
    let before : HasCleanDisk (inside g.S.Store c.find_crl.new.tx) = omega (arith, clean, c.find_entry.ensures.survives.clean) in
    rw (p.1, p.2) (caused_then _ _ _ _ c.in_ok-head.field-0 _ c.find_crl.ensures.survives c.find_entry.ensures.survives before (c.in_ok-head.ensures.finds before) (c.in_err-reason.ensures.caused clean))
