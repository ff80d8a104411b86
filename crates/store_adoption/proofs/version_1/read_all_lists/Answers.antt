use Rattle.std.proofs.Common.{Err, arith}
use Rattle.std.proofs.lemmas.Result.{err_from_is_err_and}
use Rattle.sqlite.specs.Held.{state}
use Rattle.sqlite.specs.State.{HasCleanDisk}
use Rattle.store_adoption.specs.Inspects.{HasListsUnder, HasUnscopedCrls, HasUnscopedEntries}
use Rattle.store_adoption.specs.Read.{ShowsOwn, ShowsUnscoped}
use Rattle.store_adoption.proofs.Inspecting.{checks_then, later_caused}
use Rattle.store_adoption.proofs.version_1.read_all_lists.Goals as goal

pub returns-in_err-entries-clause-checks : goal.returns-in_err-entries-clause-checks
returns-in_err-entries-clause-checks g c clean =
    let p = err_from_is_err_and c.from_residual-in_err-entries.result c.from_residual-in_err-entries.ensures.1 in
    let next = c.args.next in
    let mid = state g.S.Store c.read_lists.new.conn in
    let before : HasCleanDisk mid = omega (arith, clean, c.read_entries.ensures.survives.clean) in
    rw (p.1, p.2) (checks_then (state g.S.Store c.args.conn.now) mid (state g.S.Store c.read_entries.new.conn) (λ lists db. HasUnscopedCrls next db × ShowsUnscoped lists db) (λ entries db. HasUnscopedEntries next db × ShowsOwn entries db) (HasUnscopedEntries next) (λ entries db. HasListsUnder next db) (HasListsUnder next) c.in_ok-lists.lists (Err _)
    (c.in_ok-lists.ensures.checks before) (c.in_err-entries.ensures.checks clean) (λ entries ordered lists own. (lists.0, own.0)) (λ ordered lists all. all.1))

pub returns-in_err-entries-clause-caused : goal.returns-in_err-entries-clause-caused
returns-in_err-entries-clause-caused g c clean =
    let p = err_from_is_err_and c.from_residual-in_err-entries.result c.from_residual-in_err-entries.ensures.1 in
    let mid = state g.S.Store c.read_lists.new.conn in
    let before : HasCleanDisk mid = omega (arith, clean, c.read_entries.ensures.survives.clean) in
    rw (p.1, p.2) (later_caused (state g.S.Store c.args.conn.now) mid (state g.S.Store c.read_entries.new.conn) _ (c.in_ok-lists.ensures.checks before).0 c.read_lists.ensures.survives c.read_entries.ensures.survives before (c.in_err-entries.ensures.caused clean))
