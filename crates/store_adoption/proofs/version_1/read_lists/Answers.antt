use Rattle.std.proofs.Common.{refl, sym, subst, arith, Ok, Err}
use Rattle.std.proofs.lemmas.Result.{err_from_is_err_and}
use Rattle.sqlite.specs.Held.{state}
use Rattle.sqlite.specs.Listing.{understood}
use Rattle.sqlite.proofs.Callers.{IsPlain}
use Rattle.std.specs.List.{AllByRecursion}
use Rattle.store_sql.specs.Tables.{version_1_schema}
use Rattle.store_adoption.specs.Texts.{all_unscoped_crls}
use Rattle.store_adoption.specs.Cells.{IsUnscopedCrlCells}
use Rattle.store_adoption.specs.Inspects.{unscoped_crl_cells}
use Rattle.store_adoption.specs.Tests.{IsTableQuery}
use Rattle.store_adoption.proofs.Answered.{answers_unscoped_crls}
use Rattle.store_adoption.proofs.Meaning.{shows_unscoped_crls}
use Rattle.store_adoption.proofs.Inspecting.{checked, stopped}
use Rattle.store_adoption.proofs.Placed.{in_order_before}
use Rattle.store_adoption.proofs.version_1.read_lists.Goals as goal

pub test_rows-requires-clause-plain : goal.test_rows-requires-clause-plain
test_rows-requires-clause-plain g c clean = subst (λ s. IsPlain (understood s all_unscoped_crls)) (sym (c.requires.ours clean)) shows_unscoped_crls.2

pub returns-clause-checks : goal.returns-clause-checks
returns-clause-checks g c clean =
    let old = state g.S.Store c.args.conn.now in
    let step = c.test_rows.ensures.survives.clean in
    let ours = c.requires.ours (omega (arith, step, clean)) in
    let it = shows_unscoped_crls in
    let h = checked version_1_schema all_unscoped_crls 5 _ _ unscoped_crl_cells it.0 it.1 it.2 (λ r. refl) {A = Unit {0}} old _ _ (AllByRecursion (IsUnscopedCrlCells c.args.next)) (Ok c.in_ok-test_rows.field-0) ours (λ ordered. (in_order_before old.now ours ordered).crls.0) (c.in_ok-test_rows.ensures.tests clean) in
    (h.0, λ ordered. let all = h.1 ordered in ((c.in_ok-test_rows.ensures.same _).1 all.0, all.1))

pub returns-in_err-test_rows-clause-checks : goal.returns-in_err-test_rows-clause-checks
returns-in_err-test_rows-clause-checks g c clean =
    let p = err_from_is_err_and c.from_residual.result c.from_residual.ensures.1 in
    let old = state g.S.Store c.args.conn.now in
    let step = c.test_rows.ensures.survives.clean in
    let ours = c.requires.ours (omega (arith, step, clean)) in
    let it = shows_unscoped_crls in
    rw (p.1, p.2) (checked version_1_schema all_unscoped_crls 5 _ _ unscoped_crl_cells it.0 it.1 it.2 (λ r. refl) {A = Unit {0}} old _ (λ _. Unit {0}) (AllByRecursion (IsUnscopedCrlCells c.args.next)) (Err _) ours (λ ordered. (in_order_before old.now ours ordered).crls.0) (c.in_err-test_rows.ensures.tests clean))

pub returns-in_err-test_rows-clause-caused : goal.returns-in_err-test_rows-clause-caused
returns-in_err-test_rows-clause-caused g c clean =
    let p = err_from_is_err_and c.from_residual.result c.from_residual.ensures.1 in
    let old = state g.S.Store c.args.conn.now in
    let step = c.test_rows.ensures.survives.clean in
    let ours = c.requires.ours (omega (arith, step, clean)) in
    let it = shows_unscoped_crls in
    rw (p.1, p.2) (λ e ordered. stopped version_1_schema all_unscoped_crls 5 _ _ unscoped_crl_cells it.0 it.1 it.2 (λ r. refl) old (state g.S.Store c.test_rows.new.conn) ours (in_order_before old.now ours ordered).crls.0
    (c.in_err-test_rows.ensures.caused clean (subst (λ s. IsTableQuery s all_unscoped_crls (understood s all_unscoped_crls)) (sym ours) answers_unscoped_crls) e))
