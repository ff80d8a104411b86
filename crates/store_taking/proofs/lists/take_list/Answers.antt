use Rattle.std.proofs.Common.{arith, suc}
use Rattle.statements_facts.specs.Fact.{seen_issuer}
use Rattle.store_maps.specs.Held.{IsStoreOf}
use Rattle.store_taking.specs.Passing.{HasIssuer}
use Rattle.store_taking.specs.Taking.{IsTaken, fact_of_crl}
use Rattle.store_taking.proofs.Causing.{if_ok_then}
use Rattle.store_taking.proofs.Chains.{goes_then, on_ok}
use Rattle.sqlite.specs.Held.{state}
use Rattle.sqlite.specs.State.{HasCleanDisk}
use Rattle.store_sql.proofs.Laws.{later_refuses, if_err_then}
use Rattle.store_taking.proofs.lists.take_list.Goals as goal

pub returns-clause-takes : goal.returns-clause-takes
returns-clause-takes g c clean =
    goes_then _ _ _ IsStoreOf (HasIssuer (seen_issuer c.args.issuer.now) c.in_ok-id.id) (IsTaken (fact_of_crl c.args.issuer.now c.args.list.now)) c.take_under.result
    (c.in_ok-id.ensures.goes (omega (arith, clean, c.take_under.ensures.survives.clean))) (c.take_under.ensures.goes clean)

pub returns-clause-open : goal.returns-clause-open
returns-clause-open g c clean = on_ok c.take_under.result _ (c.in_ok-id.ensures.open (omega (arith, clean, c.take_under.ensures.survives.clean)))

pub returns-clause-caused : goal.returns-clause-caused
returns-clause-caused g c issuers rows clean =
    let middle : HasCleanDisk (state g.S.Store c.issuer_id.new.tx.conn.now) = omega (arith, clean, c.take_under.ensures.survives.clean) in
    if_err_then c.take_under.result _ _ (c.take_under.ensures.caused issuers rows clean) (λ fault caused e before fits.
    later_refuses _ _ _ (λ _. ⊥) (λ _. ⊥) c.in_ok-id.ensures.survives c.take_under.ensures.survives middle (caused e (c.in_ok-id.ensures.leaves issuers (suc rows) middle before) fits.1))

pub returns-clause-leaves : goal.returns-clause-leaves
returns-clause-leaves g c issuers rows clean =
    let middle : HasCleanDisk (state g.S.Store c.issuer_id.new.tx.conn.now) = omega (arith, clean, c.take_under.ensures.survives.clean) in
    if_ok_then c.take_under.result _ _ (c.take_under.ensures.leaves issuers rows clean) (λ outcome leads before. leads (c.in_ok-id.ensures.leaves issuers (suc rows) middle before))
