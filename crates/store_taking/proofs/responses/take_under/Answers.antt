use Rattle.std.proofs.Common.{arith}
use Rattle.std.proofs.lemmas.Result.{err_from_is_err_and}
use Rattle.statements_facts.specs.Fact.{seen_issuer}
use Rattle.statements_facts.specs.Single.{seen_single}
use Rattle.store_taking.proofs.Storing.{single_left, single_stored, looked_then_stops, stops_at_once}
use Rattle.sqlite.specs.Held.{state}
use Rattle.sqlite.specs.State.{HasCleanDisk}
use Rattle.store_taking.proofs.Causing.{room_if_left, room_if_put, single_not_compared, single_not_stored}
use Rattle.store_taking.proofs.responses.take_under.Goals as goal

pub returns-in_err-outcome-clause-goes : goal.returns-in_err-outcome-clause-goes
returns-in_err-outcome-clause-goes g c clean =
    let p = err_from_is_err_and c.from_residual.result c.from_residual.ensures.1 in
    rw (p.1, p.2) (stops_at_once _ _ (seen_issuer c.args.issuer.now) c.args.id _ (c.in_err-outcome.ensures.finds clean))

pub returns-in_default-clause-goes : goal.returns-in_default-clause-goes
returns-in_default-clause-goes g c clean =
    let single = seen_single c.args.single.now in
    single_left (seen_issuer c.args.issuer.now) c.args.id single.name_hash single.serial single.fact _ _ c.in_ok-outcome.outcome c.in_default.not-Stored (c.in_ok-outcome.ensures.finds clean)

pub returns-clause-goes : goal.returns-clause-goes
returns-clause-goes g c clean =
    let single = seen_single c.args.single.now in
    single_stored (seen_issuer c.args.issuer.now) c.args.id single.name_hash single.serial single.fact _ _ _
    (rw c.in-Stored.is at (c.in_ok-outcome.ensures.finds (omega (arith, clean, c.replace_single.ensures.survives.clean)))) (c.in_ok-replace_single.ensures.changes clean)
    c.is_said.ensures

pub returns-in_err-replace_single-clause-goes : goal.returns-in_err-replace_single-clause-goes
returns-in_err-replace_single-clause-goes g c clean =
    let p = err_from_is_err_and c.from_residual-in_err-replace_single.result c.from_residual-in_err-replace_single.ensures.1 in
    rw (p.1, p.2) (looked_then_stops _ _ _ (seen_issuer c.args.issuer.now) c.args.id _ c.in_ok-outcome.outcome _
    (c.in_ok-outcome.ensures.finds (omega (arith, clean, c.replace_single.ensures.survives.clean))) (c.in_err-replace_single.ensures.changes clean))

pub returns-in_default-clause-leaves : goal.returns-in_default-clause-leaves
returns-in_default-clause-leaves g c issuers rows clean before = room_if_left (seen_issuer c.args.issuer.now) c.args.id issuers rows _ _ _ c.in_ok-outcome.outcome (c.in_ok-outcome.ensures.finds clean) before

pub returns-clause-leaves : goal.returns-clause-leaves
returns-clause-leaves g c issuers rows clean before =
    let single = seen_single c.args.single.now in
    let middle : HasCleanDisk (state g.S.Store c.outcome_of_single.new.tx.conn.now) = omega (arith, clean, c.replace_single.ensures.survives.clean) in
    room_if_put (seen_issuer c.args.issuer.now) c.args.id issuers rows _ _ _ single.name_hash single.serial single.fact _ c.in_ok-outcome.outcome (c.in_ok-outcome.ensures.finds middle)
    (c.in_ok-replace_single.ensures.changes clean) c.is_said.ensures before

pub returns-in_err-outcome-clause-caused : goal.returns-in_err-outcome-clause-caused
returns-in_err-outcome-clause-caused g c issuers rows clean =
    let p = err_from_is_err_and c.from_residual.result c.from_residual.ensures.1 in
    rw (p.1, p.2) (single_not_compared (seen_issuer c.args.issuer.now) c.args.id issuers rows (state g.S.Store c.args.tx.now.conn.now) (state g.S.Store c.outcome_of_single.new.tx.conn.now) (seen_single c.args.single.now) _ (c.in_err-outcome.ensures.caused clean))

pub returns-in_err-replace_single-clause-caused : goal.returns-in_err-replace_single-clause-caused
returns-in_err-replace_single-clause-caused g c issuers rows clean =
    let p = err_from_is_err_and c.from_residual-in_err-replace_single.result c.from_residual-in_err-replace_single.ensures.1 in
    let middle : HasCleanDisk (state g.S.Store c.outcome_of_single.new.tx.conn.now) = omega (arith, clean, c.replace_single.ensures.survives.clean) in
    rw (p.1, p.2) (single_not_stored (seen_issuer c.args.issuer.now) c.args.id issuers rows _ _ _ (seen_single c.args.single.now) _ _ c.in_ok-outcome.outcome (c.in_ok-outcome.ensures.finds middle)
    c.outcome_of_single.ensures.survives c.replace_single.ensures.survives middle (c.in_err-replace_single.ensures.caused clean))
