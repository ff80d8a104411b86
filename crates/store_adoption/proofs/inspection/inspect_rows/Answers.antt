use Rattle.std.proofs.Common.{arith}
use Rattle.std.proofs.lemmas.Result.{err_from_is_err_and}
use Rattle.sqlite.specs.Held.{state}
use Rattle.sqlite.specs.State.{HasCleanDisk}
use Rattle.sqlite.proofs.StateLemmas.{survives_then}
use Rattle.store_sql.proofs.Laws.{if_err_then}
use Rattle.store_adoption.specs.Inspects.{HasEntries, HasHeads, HasRows}
use Rattle.store_adoption.proofs.Inspecting.{checks_then, first_fails, later_caused}
use Rattle.store_adoption.proofs.inspection.inspect_rows.Goals as goal

pub returns-in_err-inspect_heads-clause-checks : goal.returns-in_err-inspect_heads-clause-checks
returns-in_err-inspect_heads-clause-checks g c clean =
    let p = err_from_is_err_and c.from_residual.result c.from_residual.ensures.1 in
    let origin = c.args.origin in
    rw (p.1, p.2) (first_fails (state g.S.Store c.args.conn.now) (state g.S.Store c.inspect_heads.new.conn) (HasHeads origin) (HasRows origin) _ (c.in_err-inspect_heads.ensures.checks clean) (λ ordered all. all.0))

pub returns-clause-checks : goal.returns-clause-checks
returns-clause-checks g c clean =
    let origin = c.args.origin in
    let step = c.inspect_entries.ensures.survives.clean in
    checks_then {A = Unit {0}} {B = Unit {0}} (state g.S.Store c.args.conn.now) (state g.S.Store c.inspect_heads.new.conn) (state g.S.Store c.inspect_entries.new.conn)
    (λ _. HasHeads origin) (λ _. HasEntries origin) (HasEntries origin) (λ _. HasRows origin) (HasRows origin) c.in_ok-inspect_heads.field-0 c.inspect_entries.result
    (c.in_ok-inspect_heads.ensures.checks (omega (arith, step, clean))) (c.inspect_entries.ensures.checks clean) (λ done ordered heads entries. (heads, entries)) (λ ordered heads all. all.1)

pub returns-clause-survives : goal.returns-clause-survives
returns-clause-survives g c = survives_then (state g.S.Store c.args.conn.now) (state g.S.Store c.inspect_heads.new.conn) (state g.S.Store c.inspect_entries.new.conn) _ _ (λ trees. ⊥) (λ clean db none. none) (λ clean db none. none) c.inspect_heads.ensures.survives c.inspect_entries.ensures.survives

pub returns-clause-caused : goal.returns-clause-caused
returns-clause-caused g c clean =
    let mid = state g.S.Store c.inspect_heads.new.conn in
    let before : HasCleanDisk mid = omega (arith, clean, c.inspect_entries.ensures.survives.clean) in
    if_err_then c.inspect_entries.result _ _ (c.inspect_entries.ensures.caused clean) (λ fault caused. later_caused (state g.S.Store c.args.conn.now) mid (state g.S.Store c.inspect_entries.new.conn) fault (c.in_ok-inspect_heads.ensures.checks before).0 c.inspect_heads.ensures.survives c.inspect_entries.ensures.survives before caused)
