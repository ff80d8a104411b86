use Rattle.std.proofs.Common.{arith}
use Rattle.std.proofs.lemmas.Result.{err_from_is_err_and}
use Rattle.statements_facts.specs.Fact.{seen_issuer}
use Rattle.store_taking.specs.Lists.{crl_head}
use Rattle.store_taking.proofs.Storing.{list_left, list_stored, looked_then_stops, stops_at_once}
use Rattle.sqlite.specs.Held.{state}
use Rattle.sqlite.specs.State.{HasCleanDisk}
use Rattle.store_taking.proofs.Causing.{list_not_compared, list_not_stored, room_if_left, room_if_list_put}
use Rattle.store_taking.proofs.lists.take_under.Goals as goal

pub returns-in_err-outcome-clause-goes : goal.returns-in_err-outcome-clause-goes
returns-in_err-outcome-clause-goes g c clean =
    let p = err_from_is_err_and c.from_residual.result c.from_residual.ensures.1 in
    rw (p.1, p.2) (stops_at_once _ _ (seen_issuer c.args.issuer.now) c.args.id _ (c.in_err-outcome.ensures.finds clean))

pub returns-in_default-clause-goes : goal.returns-in_default-clause-goes
returns-in_default-clause-goes g c clean =
    list_left (seen_issuer c.args.issuer.now) c.args.id c.args.list.now.scope (crl_head c.args.list.now) c.args.list.now.revoked _ _ c.in_ok-outcome.outcome c.in_default.not-Stored (c.in_ok-outcome.ensures.finds clean)

pub returns-clause-goes : goal.returns-clause-goes
returns-clause-goes g c clean =
    list_stored (seen_issuer c.args.issuer.now) c.args.id c.args.list.now.scope (crl_head c.args.list.now) c.args.list.now.revoked _ _ _
    (rw c.in-Stored.is at (c.in_ok-outcome.ensures.finds (omega (arith, clean, c.store_list.ensures.survives.clean)))) (c.in_ok-store_list.ensures.changes clean)
    c.store_list.ensures.numbered c.in_ok-store_list.ensures.formed c.requires.issuer

pub returns-in_err-store_list-clause-goes : goal.returns-in_err-store_list-clause-goes
returns-in_err-store_list-clause-goes g c clean =
    let p = err_from_is_err_and c.from_residual-in_err-store_list.result c.from_residual-in_err-store_list.ensures.1 in
    rw (p.1, p.2) (looked_then_stops _ _ _ (seen_issuer c.args.issuer.now) c.args.id _ c.in_ok-outcome.outcome _
    (c.in_ok-outcome.ensures.finds (omega (arith, clean, c.store_list.ensures.survives.clean))) (c.in_err-store_list.ensures.changes clean))

pub returns-in_err-outcome-clause-caused : goal.returns-in_err-outcome-clause-caused
returns-in_err-outcome-clause-caused g c issuers rows clean =
    let p = err_from_is_err_and c.from_residual.result c.from_residual.ensures.1 in
    rw (p.1, p.2) (list_not_compared (seen_issuer c.args.issuer.now) c.args.id issuers rows (state g.S.Store c.args.tx.now.conn.now) (state g.S.Store c.outcome_of_list.new.tx.conn.now) c.args.list.now _ (c.in_err-outcome.ensures.caused clean))

pub returns-in_err-store_list-clause-caused : goal.returns-in_err-store_list-clause-caused
returns-in_err-store_list-clause-caused g c issuers rows clean =
    let p = err_from_is_err_and c.from_residual-in_err-store_list.result c.from_residual-in_err-store_list.ensures.1 in
    let middle : HasCleanDisk (state g.S.Store c.outcome_of_list.new.tx.conn.now) = omega (arith, clean, c.store_list.ensures.survives.clean) in
    rw (p.1, p.2) (list_not_stored (seen_issuer c.args.issuer.now) c.args.id issuers rows _ _ _ c.args.list.now _ _ c.in_ok-outcome.outcome (c.in_ok-outcome.ensures.finds middle)
    c.outcome_of_list.ensures.survives c.store_list.ensures.survives middle (c.in_err-store_list.ensures.caused clean))

pub returns-in_default-clause-leaves : goal.returns-in_default-clause-leaves
returns-in_default-clause-leaves g c issuers rows clean before = room_if_left (seen_issuer c.args.issuer.now) c.args.id issuers rows _ _ _ c.in_ok-outcome.outcome (c.in_ok-outcome.ensures.finds clean) before

pub returns-clause-leaves : goal.returns-clause-leaves
returns-clause-leaves g c issuers rows clean before =
    let middle : HasCleanDisk (state g.S.Store c.outcome_of_list.new.tx.conn.now) = omega (arith, clean, c.store_list.ensures.survives.clean) in
    room_if_list_put (seen_issuer c.args.issuer.now) c.args.id issuers rows _ _ _ c.args.list.now.scope (crl_head c.args.list.now) c.args.list.now.revoked _ c.in_ok-outcome.outcome (c.in_ok-outcome.ensures.finds middle)
    (c.in_ok-store_list.ensures.changes clean) c.store_list.ensures.numbered c.in_ok-store_list.ensures.formed c.requires.issuer before
