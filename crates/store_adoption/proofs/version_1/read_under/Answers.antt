use Rattle.store_adoption.specs.declared.unscoped.UnscopedLists.{UnscopedLists}
use Rattle.store_adoption.specs.Read.{ShowsAll}
use Rattle.std.proofs.Common.{arith}
use Rattle.sqlite.specs.Held.{state}
use Rattle.sqlite.specs.State.{HasCleanDisk}
use Rattle.sqlite.proofs.StateLemmas.{survives_then}
use Rattle.store_sql.proofs.Laws.{if_err_then}
use Rattle.store_adoption.specs.Inspects.{HasSingles, HasListsUnder, HasUnder}
use Rattle.store_adoption.proofs.Inspecting.{checks_then, later_caused}
use Rattle.store_adoption.proofs.version_1.read_under.Goals as goal

pub returns-clause-survives : goal.returns-clause-survives
returns-clause-survives g c = survives_then (state g.S.Store c.args.conn.now) (state g.S.Store c.read_singles.new.conn) (state g.S.Store c.read_all_lists.new.conn) _ _ (λ trees. ⊥) (λ clean db none. none) (λ clean db none. none) c.read_singles.ensures.survives c.read_all_lists.ensures.survives

pub returns-clause-checks : goal.returns-clause-checks
returns-clause-checks g c clean =
    let next = c.args.next in
    let old = state g.S.Store c.args.conn.now in
    let mid = state g.S.Store c.read_singles.new.conn in
    let step = c.read_all_lists.ensures.survives.clean in
    let first = c.in_ok-read_singles.ensures.checks (omega (arith, step, clean)) in
    checks_then {A = Unit {0}} {B = UnscopedLists} old mid (state g.S.Store c.read_all_lists.new.conn) (λ _. HasSingles next) (λ all db. HasListsUnder next db × ShowsAll all db) (HasListsUnder next) (λ all db. HasUnder next db × ShowsAll all db) (HasUnder next) c.in_ok-read_singles.field-0 c.read_all_lists.result
    first (c.read_all_lists.ensures.checks clean) (λ all ordered a b. ((a, b.0), b.1)) (λ ordered a all. all.1)

pub returns-clause-caused : goal.returns-clause-caused
returns-clause-caused g c clean =
    let mid = state g.S.Store c.read_singles.new.conn in
    let before : HasCleanDisk mid = omega (arith, clean, c.read_all_lists.ensures.survives.clean) in
    if_err_then c.read_all_lists.result _ _ (c.read_all_lists.ensures.caused clean) (λ fault caused. later_caused (state g.S.Store c.args.conn.now) mid (state g.S.Store c.read_all_lists.new.conn) fault (c.in_ok-read_singles.ensures.checks before).0 c.read_singles.ensures.survives c.read_all_lists.ensures.survives before caused)
