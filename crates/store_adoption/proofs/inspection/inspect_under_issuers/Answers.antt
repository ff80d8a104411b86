use Rattle.std.proofs.Common.{arith}
use Rattle.sqlite.specs.Held.{state}
use Rattle.sqlite.specs.State.{HasCleanDisk}
use Rattle.sqlite.proofs.StateLemmas.{survives_then}
use Rattle.store_sql.proofs.Laws.{if_err_then}
use Rattle.store_adoption.specs.Inspects.{HasCrls, HasSingles, HasCrlsAndSingles}
use Rattle.store_adoption.proofs.Inspecting.{checks_then, later_caused}
use Rattle.store_adoption.proofs.inspection.inspect_under_issuers.Goals as goal

pub returns-clause-survives : goal.returns-clause-survives
returns-clause-survives g c = survives_then (state g.S.Store c.args.conn.now) (state g.S.Store c.inspect_crls.new.conn) (state g.S.Store c.inspect_singles.new.conn) _ _ (λ trees. ⊥) (λ clean db none. none) (λ clean db none. none) c.inspect_crls.ensures.survives c.inspect_singles.ensures.survives

pub returns-clause-checks : goal.returns-clause-checks
returns-clause-checks g c clean =
    let origin = c.args.origin in
    let next = c.args.next in
    let step = c.inspect_singles.ensures.survives.clean in
    checks_then {A = Unit {0}} {B = Unit {0}} (state g.S.Store c.args.conn.now) (state g.S.Store c.inspect_crls.new.conn) (state g.S.Store c.inspect_singles.new.conn)
    (λ _. HasCrls origin next) (λ _. HasSingles next) (HasSingles next) (λ _. HasCrlsAndSingles origin next) (HasCrlsAndSingles origin next) c.in_ok-inspect_crls.field-0 c.inspect_singles.result
    (c.in_ok-inspect_crls.ensures.checks (omega (arith, step, clean))) (c.inspect_singles.ensures.checks clean) (λ done ordered crls singles. (crls, singles)) (λ ordered crls all. all.1)

pub returns-clause-caused : goal.returns-clause-caused
returns-clause-caused g c clean =
    let mid = state g.S.Store c.inspect_crls.new.conn in
    let before : HasCleanDisk mid = omega (arith, clean, c.inspect_singles.ensures.survives.clean) in
    if_err_then c.inspect_singles.result _ _ (c.inspect_singles.ensures.caused clean) (λ fault caused. later_caused (state g.S.Store c.args.conn.now) mid (state g.S.Store c.inspect_singles.new.conn) fault (c.in_ok-inspect_crls.ensures.checks before).0 c.inspect_crls.ensures.survives c.inspect_singles.ensures.survives before caused)
