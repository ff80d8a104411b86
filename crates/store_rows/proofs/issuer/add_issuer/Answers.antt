use Rattle.std.proofs.Common.{arith}
use Rattle.sqlite.specs.Held.{state}
use Rattle.sqlite.specs.State.{HasCleanDisk}
use Rattle.statements_facts.specs.Fact.{seen_issuer}
use Rattle.store_rows.proofs.Issuers.{issuer_moves}
use Rattle.store_rows.proofs.Refused.{as_refused, issuer_not_added}
use Rattle.store_rows.proofs.issuer.add_issuer.Goals as goal

pub returns-clause-changes : goal.returns-clause-changes
returns-clause-changes g c clean =
    let first : HasCleanDisk (state g.S.Store c.args.tx.now.conn.now) = omega (arith, clean, c.insert_issuer.ensures.survives.clean) in
    issuer_moves _ _ (seen_issuer c.args.issuer.now) _ (rw c.as_slice.ensures at (c.in_ok-insert_issuer.ensures.runs clean (c.requires.inside first)))

pub returns-in_err-insert_issuer-clause-caused : goal.returns-in_err-insert_issuer-clause-caused
returns-in_err-insert_issuer-clause-caused g c clean =
    let first : HasCleanDisk (state g.S.Store c.args.tx.now.conn.now) = omega (arith, clean, c.insert_issuer.ensures.survives.clean) in
    let one = rw c.as_slice.ensures at (c.in_err-insert_issuer.ensures.runs clean (c.requires.inside first)) in
    as_refused c.from_residual.result _ _ c.from_residual.ensures.1 (λ e origin it held form room. issuer_not_added origin _ _ it held (seen_issuer c.args.issuer.now) form room _ one e)
