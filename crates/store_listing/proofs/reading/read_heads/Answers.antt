use Rattle.std.proofs.Common.{map, sym, subst, arith, refl, Ok, Err}
use Rattle.std.proofs.lemmas.Result.{err_from_is_err_and}
use Rattle.std.specs.List.{AllByRecursion}
use Rattle.sqlite.specs.Held.{state}
use Rattle.sqlite.specs.Listing.{understood}
use Rattle.sqlite.proofs.Callers.{IsPlain}
use Rattle.sqlite.specs.Effect.{Database}
use Rattle.store_sql.specs.Tables.{store_schema, crls_tree}
use Rattle.store_adoption.specs.Tests.{IsTableQuery}
use Rattle.store_adoption.proofs.Laws.{checked, stopped, in_order}
use Rattle.store_listing.specs.Texts.{held_lists}
use Rattle.store_listing.specs.Cells.{IsListRow}
use Rattle.store_listing.specs.Reads.{AreHeads}
use Rattle.store_listing.proofs.Meaning.{shows_lists, answers_lists}
use Rattle.store_listing.proofs.Told.{in_order_as, list_cells, lists_told, lists_formed}
use Rattle.store_listing.proofs.Composing.{read_refused}
use Rattle.store_listing.proofs.reading.read_heads.Goals as goal

pub test_rows-requires-clause-plain : goal.test_rows-requires-clause-plain
test_rows-requires-clause-plain g c clean = subst (λ s. IsPlain (understood s held_lists)) (sym (c.requires.ours clean)) (shows_lists c.args.origin).2

pub returns-clause-reads : goal.returns-clause-reads
returns-clause-reads g c clean =
    let old = state g.S.Store c.args.conn.now in
    let step = c.test_rows.ensures.survives.clean in
    let ours = c.requires.ours (omega (arith, step, clean)) in
    let it = shows_lists c.args.origin in
    let h = checked (store_schema c.args.origin) held_lists (crls_tree c.args.origin) _ _ list_cells it.0 it.1 it.2 (λ r. refl) {A = Unit {0}} old _ _ (AllByRecursion IsListRow) (Ok c.in_ok-test_rows.field-0) ours (λ ordered. (in_order c.args.origin old.now ours ordered).crls.0) (c.in_ok-test_rows.ensures.tests clean) in
    (h.0, λ it s. lists_told c.args.origin old.now it _ ours s (h.1 (in_order_as old.now it s)).1)

pub returns-in_err-test_rows-clause-reads : goal.returns-in_err-test_rows-clause-reads
returns-in_err-test_rows-clause-reads g c clean =
    let p = err_from_is_err_and c.from_residual.result c.from_residual.ensures.1 in
    let old = state g.S.Store c.args.conn.now in
    let step = c.test_rows.ensures.survives.clean in
    let ours = c.requires.ours (omega (arith, step, clean)) in
    let it = shows_lists c.args.origin in
    rw (p.1, p.2) (read_refused old (state g.S.Store c.test_rows.new.conn) (λ (db : Database). (AllByRecursion IsListRow) (map list_cells (db.trees (crls_tree c.args.origin)))) AreHeads _
    (checked (store_schema c.args.origin) held_lists (crls_tree c.args.origin) _ _ list_cells it.0 it.1 it.2 (λ r. refl) {A = Unit {0}} old _ (λ _. Unit {0}) (AllByRecursion IsListRow) (Err _) ours (λ ordered. (in_order c.args.origin old.now ours ordered).crls.0) (c.in_err-test_rows.ensures.tests clean))
    (λ it s. lists_formed c.args.origin old.now it ours s))

pub returns-in_err-test_rows-clause-caused : goal.returns-in_err-test_rows-clause-caused
returns-in_err-test_rows-clause-caused g c clean =
    let p = err_from_is_err_and c.from_residual.result c.from_residual.ensures.1 in
    let old = state g.S.Store c.args.conn.now in
    let step = c.test_rows.ensures.survives.clean in
    let ours = c.requires.ours (omega (arith, step, clean)) in
    let it = shows_lists c.args.origin in
    rw (p.1, p.2) (λ e ordered. stopped (store_schema c.args.origin) held_lists (crls_tree c.args.origin) _ _ list_cells it.0 it.1 it.2 (λ r. refl) old (state g.S.Store c.test_rows.new.conn) ours (in_order c.args.origin old.now ours ordered).crls.0
    (c.in_err-test_rows.ensures.caused clean (subst (λ s. IsTableQuery s held_lists (understood s held_lists)) (sym ours) (answers_lists c.args.origin)) e))
