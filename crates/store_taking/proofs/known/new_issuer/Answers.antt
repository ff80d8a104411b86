use Rattle.std.proofs.Common.{arith}
use Rattle.statements_facts.specs.Fact.{seen_issuer}
use Rattle.store_taking.proofs.Issuing.{adds_issuer}
use Rattle.sqlite.specs.Held.{state}
use Rattle.sqlite.specs.State.{HasCleanDisk}
use Rattle.store_sql.proofs.Laws.{later_refuses, if_err_then}
use Rattle.store_taking.proofs.Causing.{added_knows, added_leaves}
use Rattle.store_taking.proofs.known.new_issuer.Goals as goal

pub returns-clause-goes : goal.returns-clause-goes
returns-clause-goes g c clean =
    adds_issuer _ _ _ (seen_issuer c.args.issuer.now) c.id_of_added.result (c.in_ok-add_issuer.ensures.changes (omega (arith, clean, c.id_of_added.ensures.survives.clean))) (c.id_of_added.ensures.known clean) c.id_of_added.ensures.room

pub returns-clause-leaves : goal.returns-clause-leaves
returns-clause-leaves g c issuers rows clean =
    added_leaves _ _ _ (seen_issuer c.args.issuer.now) c.id_of_added.result issuers rows (c.in_ok-add_issuer.ensures.changes (omega (arith, clean, c.id_of_added.ensures.survives.clean))) (c.id_of_added.ensures.known clean)

pub returns-clause-caused : goal.returns-clause-caused
returns-clause-caused g c issuers rows clean =
    let middle : HasCleanDisk (state g.S.Store c.add_issuer.new.tx.conn.now) = omega (arith, clean, c.id_of_added.ensures.survives.clean) in
    if_err_then c.id_of_added.result _ _ (c.id_of_added.ensures.caused clean) (λ fault caused e before fits.
    later_refuses _ _ _ (λ _. ⊥) (λ _. ⊥) c.add_issuer.ensures.survives c.id_of_added.ensures.survives middle
    (caused e (added_knows _ _ (seen_issuer c.args.issuer.now) issuers rows (c.in_ok-add_issuer.ensures.changes middle) before) tt))
