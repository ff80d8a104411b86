use Rattle.std.proofs.Common.{ℕ, arith}
use Rattle.sqlite.specs.Held.{state}
use Rattle.sqlite.specs.State.{HasCleanDisk}
use Rattle.sqlite.proofs.StateLemmas.{survives_then}
use Rattle.store_sql.proofs.Laws.{if_err_then}
use Rattle.store_adoption.specs.Inspects.{HasVersion, HasIssuers, HasNext, HasIds}
use Rattle.store_adoption.proofs.Inspecting.{checks_then, later_caused}
use Rattle.store_adoption.proofs.version_1.read_ids.Goals as goal

pub returns-clause-survives : goal.returns-clause-survives
returns-clause-survives g c = survives_then (state g.S.Store c.args.conn.now) (state g.S.Store c.read_version.new.conn) (state g.S.Store c.read_issuers.new.conn) _ _ (λ trees. ⊥) (λ clean db none. none) (λ clean db none. none) c.read_version.ensures.survives c.read_issuers.ensures.survives

pub returns-clause-checks : goal.returns-clause-checks
returns-clause-checks g c clean =
    let old = state g.S.Store c.args.conn.now in
    let mid = state g.S.Store c.read_version.new.conn in
    let step = c.read_issuers.ensures.survives.clean in
    let first = c.in_ok-read_version.ensures.checks (omega (arith, step, clean)) in
    checks_then {A = Unit {0}} {B = ℕ} old mid (state g.S.Store c.read_issuers.new.conn) (λ _. HasVersion 1) (λ next db. HasIssuers db × HasNext next db) HasIssuers (HasIds 1) (λ db. HasVersion 1 db × HasIssuers db) c.in_ok-read_version.field-0 c.read_issuers.result
    first (c.read_issuers.ensures.checks clean) (λ next ordered a b. (a, b.0, b.1)) (λ ordered a all. all.1)

pub returns-clause-caused : goal.returns-clause-caused
returns-clause-caused g c clean =
    let mid = state g.S.Store c.read_version.new.conn in
    let before : HasCleanDisk mid = omega (arith, clean, c.read_issuers.ensures.survives.clean) in
    if_err_then c.read_issuers.result _ _ (c.read_issuers.ensures.caused clean) (λ fault caused. later_caused (state g.S.Store c.args.conn.now) mid (state g.S.Store c.read_issuers.new.conn) fault (c.in_ok-read_version.ensures.checks before).0 c.read_version.ensures.survives c.read_issuers.ensures.survives before caused)
