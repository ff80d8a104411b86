use Rattle.sqlite.specs.State.{HasCleanDisk}
use Rattle.std.proofs.Common.{◌≡◌, ℕ, map, rules, arith}
use Rattle.sqlite.specs.Held.{state}
use Rattle.sqlite.proofs.StateLemmas.{survives_then}
use Rattle.std.proofs.lemmas.Result.{err_from_is_err_and}
use Rattle.store_sql.proofs.Laws.{if_err_then}
use Rattle.store_sql.specs.Tables.{version_1_schema}
use Rattle.store_adoption.specs.declared.unscoped.UnscopedLists.{UnscopedLists}
use Rattle.store_adoption.specs.Seen.{seen_unscoped_list, seen_own}
use Rattle.store_adoption.specs.Version1.{HasLists, IsVersion1}
use Rattle.store_adoption.specs.Inspects.{HasVersion, HasIssuers, HasIds, HasUnder, ShowsLists}
use Rattle.store_adoption.proofs.Inspecting.{checks_then, first_fails, later_caused}
use Rattle.store_adoption.proofs.WithoutScopes.{lists_of, ids_of, under_of}
use Rattle.store_adoption.proofs.version_1.read_all.Goals as goal

pub returns-in_err-next-clause-reads : goal.returns-in_err-next-clause-reads
returns-in_err-next-clause-reads g c clean =
    let p = err_from_is_err_and c.from_residual.result c.from_residual.ensures.1 in
    let old = state g.S.Store c.args.conn.now in
    rw (p.1, p.2) (first_fails old (state g.S.Store c.read_ids.new.conn) (λ db. HasVersion 1 db × HasIssuers db) IsVersion1 _ (c.in_err-next.ensures.checks clean) (λ ordered it. ids_of old.now it))

pub returns-clause-reads : goal.returns-clause-reads
returns-clause-reads g c clean =
    let old = state g.S.Store c.args.conn.now in
    let mid = state g.S.Store c.read_ids.new.conn in
    let next = c.in_ok-next.next in
    let has : old.now.schema ≡ version_1_schema = search rules in
    let step = c.read_under.ensures.survives.clean in
    let first = c.in_ok-next.ensures.checks (omega (arith, step, clean)) in
    checks_then {A = ℕ} {B = UnscopedLists} old mid (state g.S.Store c.read_under.new.conn) (HasIds 1) (λ all db. HasUnder next db × ShowsLists (map seen_unscoped_list all.lists.items) (map seen_own all.entries.items) db) (HasUnder next)
    (λ all. HasLists (map seen_unscoped_list all.lists.items) (map seen_own all.entries.items)) IsVersion1 next c.read_under.result
    first (c.read_under.ensures.checks clean)
    (λ all ordered ids under. lists_of old.now next (map seen_unscoped_list all.lists.items) (map seen_own all.entries.items) has (c.schema.ensures.live first.0.0.was_open).0 ordered ids under.0 under.1) (λ ordered ids it. under_of old.now next it ids.2)

pub returns-clause-survives : goal.returns-clause-survives
returns-clause-survives g c = survives_then (state g.S.Store c.args.conn.now) (state g.S.Store c.read_ids.new.conn) (state g.S.Store c.read_under.new.conn) _ _ (λ trees. ⊥) (λ clean db none. none) (λ clean db none. none) c.read_ids.ensures.survives c.read_under.ensures.survives

pub returns-clause-caused : goal.returns-clause-caused
returns-clause-caused g c clean =
    let mid = state g.S.Store c.read_ids.new.conn in
    let before : HasCleanDisk mid = omega (arith, clean, c.read_under.ensures.survives.clean) in
    if_err_then c.read_under.result _ _ (c.read_under.ensures.caused clean) (λ fault caused. later_caused (state g.S.Store c.args.conn.now) mid (state g.S.Store c.read_under.new.conn) fault (c.in_ok-next.ensures.checks before).0 c.read_ids.ensures.survives c.read_under.ensures.survives before caused)
