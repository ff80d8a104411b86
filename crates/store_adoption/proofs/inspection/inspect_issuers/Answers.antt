use Rattle.std.proofs.Common.{refl, sym, subst, arith, Ok, Err}
use Rattle.std.proofs.lemmas.Result.{err_from_is_err_and}
use Rattle.sqlite.specs.Held.{state}
use Rattle.sqlite.specs.Listing.{understood}
use Rattle.sqlite.proofs.Callers.{IsPlain}
use Rattle.std.specs.List.{AllByRecursion}
use Rattle.store_sql.specs.Tables.{store_schema}
use Rattle.store_adoption.specs.Texts.{all_issuers}
use Rattle.store_adoption.specs.Cells.{IsIssuerCells}
use Rattle.store_adoption.specs.Inspects.{issuer_cells}
use Rattle.store_adoption.specs.Tests.{IsTableQuery}
use Rattle.store_adoption.proofs.Answered.{answers_issuers}
use Rattle.store_adoption.proofs.Meaning.{shows_issuers}
use Rattle.store_adoption.proofs.Inspecting.{checked, stopped}
use Rattle.store_adoption.proofs.Placed.{in_order}
use Rattle.store_adoption.proofs.inspection.inspect_issuers.Goals as goal

pub test_rows-requires-clause-plain : goal.test_rows-requires-clause-plain
test_rows-requires-clause-plain g c clean = subst (λ s. IsPlain (understood s all_issuers)) (sym (c.requires.ours clean)) (shows_issuers c.args.origin).2

pub returns-clause-checks : goal.returns-clause-checks
returns-clause-checks g c clean =
    let old = state g.S.Store c.args.conn.now in
    let step = c.test_rows.ensures.survives.clean in
    let ours = c.requires.ours (omega (arith, step, clean)) in
    let it = shows_issuers c.args.origin in
    let h = checked (store_schema c.args.origin) all_issuers 1 _ _ issuer_cells it.0 it.1 it.2 (λ r. refl) {A = Unit {0}} old _ _ (AllByRecursion IsIssuerCells) (Ok c.in_ok-test_rows.field-0) ours (λ ordered. (in_order c.args.origin old.now ours ordered).issuers.0) (c.in_ok-test_rows.ensures.tests clean) in
    h

pub returns-in_err-test_rows-clause-checks : goal.returns-in_err-test_rows-clause-checks
returns-in_err-test_rows-clause-checks g c clean =
    let p = err_from_is_err_and c.from_residual.result c.from_residual.ensures.1 in
    let old = state g.S.Store c.args.conn.now in
    let step = c.test_rows.ensures.survives.clean in
    let ours = c.requires.ours (omega (arith, step, clean)) in
    let it = shows_issuers c.args.origin in
    rw (p.1, p.2) (checked (store_schema c.args.origin) all_issuers 1 _ _ issuer_cells it.0 it.1 it.2 (λ r. refl) {A = Unit {0}} old _ (λ _. Unit {0}) (AllByRecursion IsIssuerCells) (Err _) ours (λ ordered. (in_order c.args.origin old.now ours ordered).issuers.0) (c.in_err-test_rows.ensures.tests clean))

pub returns-in_err-test_rows-clause-caused : goal.returns-in_err-test_rows-clause-caused
returns-in_err-test_rows-clause-caused g c clean =
    let p = err_from_is_err_and c.from_residual.result c.from_residual.ensures.1 in
    let old = state g.S.Store c.args.conn.now in
    let step = c.test_rows.ensures.survives.clean in
    let ours = c.requires.ours (omega (arith, step, clean)) in
    let it = shows_issuers c.args.origin in
    rw (p.1, p.2) (λ e ordered. stopped (store_schema c.args.origin) all_issuers 1 _ _ issuer_cells it.0 it.1 it.2 (λ r. refl) old (state g.S.Store c.test_rows.new.conn) ours (in_order c.args.origin old.now ours ordered).issuers.0
    (c.in_err-test_rows.ensures.caused clean (subst (λ s. IsTableQuery s all_issuers (understood s all_issuers)) (sym ours) (answers_issuers c.args.origin)) e))
