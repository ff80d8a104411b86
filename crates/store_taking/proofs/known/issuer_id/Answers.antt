use Rattle.std.proofs.Common.{arith, suc}
use Rattle.statements_facts.specs.Fact.{seen_issuer}
use Rattle.store_maps.specs.Held.{IsStoreOf}
use Rattle.store_taking.specs.Passing.{HasIssuer, LacksIssuer}
use Rattle.store_taking.proofs.Chains.{goes_then, on_ok}
use Rattle.store_taking.proofs.Issuing.{passes_found, passes_unfound}
use Rattle.sqlite.specs.Held.{state}
use Rattle.sqlite.specs.State.{HasCleanDisk}
use Rattle.store_sql.proofs.Laws.{later_refuses, if_err_then}
use Rattle.store_taking.proofs.Causing.{lacks, knows, if_ok_then}
use Rattle.store_taking.proofs.known.issuer_id.Goals as goal

pub returns-in-Some-clause-goes : goal.returns-in-Some-clause-goes
returns-in-Some-clause-goes g c clean =
    passes_found _ _ (seen_issuer c.args.issuer.now) c.in_ok-id.field-0 c.in-Some.id c.in-Some.is (c.in_ok-id.ensures.finds clean)

pub returns-in-None-clause-goes : goal.returns-in-None-clause-goes
returns-in-None-clause-goes g c clean =
    goes_then _ _ _ IsStoreOf (LacksIssuer (seen_issuer c.args.issuer.now)) (HasIssuer (seen_issuer c.args.issuer.now)) c.new_issuer.result
    (passes_unfound _ _ (seen_issuer c.args.issuer.now) c.in_ok-id.field-0 c.in-None.is (c.in_ok-id.ensures.finds (omega (arith, clean, c.new_issuer.ensures.survives.clean))))
    (c.new_issuer.ensures.goes clean)

pub returns-in-Some-clause-open : goal.returns-in-Some-clause-open
returns-in-Some-clause-open g c clean = (c.in_ok-id.ensures.known clean).was_open

pub returns-in-None-clause-open : goal.returns-in-None-clause-open
returns-in-None-clause-open g c clean = on_ok c.new_issuer.result _ (c.in_ok-id.ensures.known (omega (arith, clean, c.new_issuer.ensures.survives.clean))).was_open

pub returns-in-Some-clause-leaves : goal.returns-in-Some-clause-leaves
returns-in-Some-clause-leaves g c issuers rows clean before =
    knows _ _ (seen_issuer c.args.issuer.now) c.in_ok-id.field-0 (c.in_ok-id.ensures.finds clean) issuers rows c.in-Some.id c.in-Some.is before

pub returns-in-None-clause-caused : goal.returns-in-None-clause-caused
returns-in-None-clause-caused g c issuers rows clean =
    let middle : HasCleanDisk (state g.S.Store c.find_issuer.new.tx.conn.now) = omega (arith, clean, c.new_issuer.ensures.survives.clean) in
    if_err_then c.new_issuer.result _ _ (c.new_issuer.ensures.caused issuers rows clean) (λ fault caused e before fits.
    later_refuses _ _ _ (λ _. ⊥) (λ _. ⊥) c.find_issuer.ensures.survives c.new_issuer.ensures.survives middle
    (caused e (lacks _ _ (seen_issuer c.args.issuer.now) c.in_ok-id.field-0 (c.in_ok-id.ensures.finds middle) (suc issuers) rows c.in-None.is before) fits))

pub returns-in-None-clause-leaves : goal.returns-in-None-clause-leaves
returns-in-None-clause-leaves g c issuers rows clean =
    let middle : HasCleanDisk (state g.S.Store c.find_issuer.new.tx.conn.now) = omega (arith, clean, c.new_issuer.ensures.survives.clean) in
    if_ok_then c.new_issuer.result _ _ (c.new_issuer.ensures.leaves issuers rows clean) (λ id leads before.
    leads (lacks _ _ (seen_issuer c.args.issuer.now) c.in_ok-id.field-0 (c.in_ok-id.ensures.finds middle) (suc issuers) rows c.in-None.is before))
