use Rattle.std.proofs.Common.{ℕ, sym, subst, arith}
use Rattle.sqlite.specs.Held.{state}
use Rattle.sqlite.specs.State.{HasCleanDisk}
use Rattle.sqlite.proofs.StateLemmas.{survives_then}
use Rattle.store_sql.proofs.Laws.{if_err_then}
use Rattle.store_adoption.specs.Inspects.{HasCrls, HasSingles, HasCrlsAndSingles, HasHeads, HasIssuers, HasNext}
use Rattle.store_adoption.proofs.Inspecting.{checks_then, later_caused}
use Rattle.store_adoption.proofs.inspection.inspect_heads.Goals as goal

pub returns-clause-survives : goal.returns-clause-survives
returns-clause-survives g c = survives_then (state g.S.Store c.args.conn.now) (state g.S.Store c.inspect_issuers.new.conn) (state g.S.Store c.inspect_under_issuers.new.conn) _ _ (λ trees. ⊥) (λ clean db none. none) (λ clean db none. none) c.inspect_issuers.ensures.survives c.inspect_under_issuers.ensures.survives

pub returns-clause-checks : goal.returns-clause-checks
returns-clause-checks g c clean =
    let origin = c.args.origin in
    let next = c.in_ok-next.next in
    let old = state g.S.Store c.args.conn.now in
    let step = c.inspect_under_issuers.ensures.survives.clean in
    checks_then {A = ℕ} {B = Unit {0}} old (state g.S.Store c.inspect_issuers.new.conn) (state g.S.Store c.inspect_under_issuers.new.conn)
    (λ next db. HasIssuers db × HasNext next db) (λ _. HasCrlsAndSingles origin next) (HasCrlsAndSingles origin next) (λ _. HasHeads origin) (HasHeads origin) next c.inspect_under_issuers.result
    (c.in_ok-next.ensures.checks (omega (arith, step, clean))) (c.inspect_under_issuers.ensures.checks clean)
    (λ done ordered ids under. record {
      issuers = ids.0;
      crls = subst (λ n. HasCrls origin n old.now) (sym ids.1) under.0;
      singles = subst (λ n. HasSingles n old.now) (sym ids.1) under.1;
    })
    (λ ordered ids all. (subst (λ n. HasCrls origin n old.now) ids.1 all.crls, subst (λ n. HasSingles n old.now) ids.1 all.singles))

pub returns-clause-caused : goal.returns-clause-caused
returns-clause-caused g c clean =
    let mid = state g.S.Store c.inspect_issuers.new.conn in
    let before : HasCleanDisk mid = omega (arith, clean, c.inspect_under_issuers.ensures.survives.clean) in
    if_err_then c.inspect_under_issuers.result _ _ (c.inspect_under_issuers.ensures.caused clean) (λ fault caused. later_caused (state g.S.Store c.args.conn.now) mid (state g.S.Store c.inspect_under_issuers.new.conn) fault (c.in_ok-next.ensures.checks before).0 c.inspect_issuers.ensures.survives c.inspect_under_issuers.ensures.survives before caused)
