use Rattle.std.proofs.Common.{map, None, refl, sym, subst, arith, Ok, Err}
use Rattle.std.proofs.lemmas.Result.{err_from_is_err_and}
use Rattle.sqlite.specs.Held.{state}
use Rattle.sqlite.specs.Listing.{understood}
use Rattle.sqlite.proofs.Callers.{IsPlain}
use Rattle.std.specs.List.{AllByRecursion}
use Rattle.store_sql.specs.Tables.{store_schema, entries_tree}
use Rattle.store_adoption.specs.Texts.{all_entries}
use Rattle.store_adoption.specs.Cells.{IsEntryCells, AreChained, entry_of_row}
use Rattle.store_adoption.specs.Inspects.{entry_cells}
use Rattle.store_adoption.specs.Tests.{IsTableQuery}
use Rattle.store_adoption.proofs.Answered.{answers_entries}
use Rattle.store_adoption.proofs.Meaning.{shows_entries}
use Rattle.store_adoption.proofs.Inspecting.{checked, stopped}
use Rattle.store_adoption.proofs.Placed.{in_order}
use Rattle.store_adoption.proofs.inspection.inspect_entries.Goals as goal

pub test_rows-requires-clause-plain : goal.test_rows-requires-clause-plain
test_rows-requires-clause-plain g c clean = subst (λ s. IsPlain (understood s all_entries)) (sym (c.requires.ours clean)) (shows_entries c.args.origin).2

pub returns-clause-checks : goal.returns-clause-checks
returns-clause-checks g c clean =
    let old = state g.S.Store c.args.conn.now in
    let step = c.test_rows.ensures.survives.clean in
    let ours = c.requires.ours (omega (arith, step, clean)) in
    let it = shows_entries c.args.origin in
    let h = checked (store_schema c.args.origin) all_entries (entries_tree c.args.origin) _ _ entry_cells it.0 it.1 it.2 (λ r. refl) {A = Unit {0}} old _ _ (λ rows. AllByRecursion IsEntryCells rows × AreChained None (map entry_of_row rows)) (Ok c.in_ok-test_rows.field-0) ours (λ ordered. (in_order c.args.origin old.now ours ordered).entries.0) (c.in_ok-test_rows.ensures.tests clean) in
    (h.0, λ ordered. let all = h.1 ordered in (all.0, all.1))

pub returns-in_err-test_rows-clause-checks : goal.returns-in_err-test_rows-clause-checks
returns-in_err-test_rows-clause-checks g c clean =
    let p = err_from_is_err_and c.from_residual.result c.from_residual.ensures.1 in
    let old = state g.S.Store c.args.conn.now in
    let step = c.test_rows.ensures.survives.clean in
    let ours = c.requires.ours (omega (arith, step, clean)) in
    let it = shows_entries c.args.origin in
    rw (p.1, p.2) (checked (store_schema c.args.origin) all_entries (entries_tree c.args.origin) _ _ entry_cells it.0 it.1 it.2 (λ r. refl) {A = Unit {0}} old _ (λ _. Unit {0}) (λ rows. AllByRecursion IsEntryCells rows × AreChained None (map entry_of_row rows)) (Err _) ours (λ ordered. (in_order c.args.origin old.now ours ordered).entries.0) (c.in_err-test_rows.ensures.tests clean))

pub returns-in_err-test_rows-clause-caused : goal.returns-in_err-test_rows-clause-caused
returns-in_err-test_rows-clause-caused g c clean =
    let p = err_from_is_err_and c.from_residual.result c.from_residual.ensures.1 in
    let old = state g.S.Store c.args.conn.now in
    let step = c.test_rows.ensures.survives.clean in
    let ours = c.requires.ours (omega (arith, step, clean)) in
    let it = shows_entries c.args.origin in
    rw (p.1, p.2) (λ e ordered. stopped (store_schema c.args.origin) all_entries (entries_tree c.args.origin) _ _ entry_cells it.0 it.1 it.2 (λ r. refl) old (state g.S.Store c.test_rows.new.conn) ours (in_order c.args.origin old.now ours ordered).entries.0
    (c.in_err-test_rows.ensures.caused clean (subst (λ s. IsTableQuery s all_entries (understood s all_entries)) (sym ours) (answers_entries c.args.origin)) e))
