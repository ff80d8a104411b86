use Rattle.std.proofs.Common.{◌≡◌, length, refl, sym, subst, arith, Ok, Err, inl}
use Rattle.std.proofs.lemmas.Result.{err_from_is_err_and}
use Rattle.sqlite.specs.Held.{state}
use Rattle.sqlite.specs.Listing.{understood}
use Rattle.sqlite.proofs.Callers.{IsPlain}
use Rattle.sqlite.proofs.InsideLemmas.{unchanged_keeps}
use Rattle.store_sql.specs.Tables.{store_schema}
use Rattle.store_adoption.specs.Texts.{all_versions}
use Rattle.store_adoption.specs.Cells.{AreVersionRows}
use Rattle.store_adoption.specs.Inspects.{version_cells}
use Rattle.store_adoption.specs.Tests.{IsTableQuery}
use Rattle.store_adoption.proofs.Answered.{answers_versions}
use Rattle.store_adoption.proofs.Meaning.{shows_versions}
use Rattle.store_adoption.proofs.Inspecting.{checked, stopped}
use Rattle.store_adoption.proofs.Placed.{in_order}
use Rattle.store_adoption.proofs.Versions.{no_profile, rows_of_profile}
use Rattle.store_adoption.proofs.inspection.inspect_version.Goals as goal

pub test_rows-requires-clause-plain : goal.test_rows-requires-clause-plain
test_rows-requires-clause-plain g c clean = subst (λ s. IsPlain (understood s all_versions)) (sym (c.requires.ours clean)) (shows_versions c.args.origin).2

pub returns-in_err-test_rows-clause-checks : goal.returns-in_err-test_rows-clause-checks
returns-in_err-test_rows-clause-checks g c clean =
    let p = err_from_is_err_and c.from_residual.result c.from_residual.ensures.1 in
    let old = state g.S.Store c.args.conn.now in
    let step = c.test_rows.ensures.survives.clean in
    let ours = c.requires.ours (omega (arith, step, clean)) in
    let it = shows_versions c.args.origin in
    let h = checked (store_schema c.args.origin) all_versions 0 _ _ version_cells it.0 it.1 it.2 (λ r. refl) {A = Unit {0}} old _ (λ _. Unit {0}) AreVersionRows (Err _) ours (λ ordered. (in_order c.args.origin old.now ours ordered).versions.0) (c.in_err-test_rows.ensures.tests clean) in
    rw (p.1, p.2) (h.0, λ schema ordered has. h.1 schema ordered (rows_of_profile has.0 _ has.1))

pub returns-in_err-test_rows-clause-caused : goal.returns-in_err-test_rows-clause-caused
returns-in_err-test_rows-clause-caused g c clean =
    let p = err_from_is_err_and c.from_residual.result c.from_residual.ensures.1 in
    let old = state g.S.Store c.args.conn.now in
    let step = c.test_rows.ensures.survives.clean in
    let ours = c.requires.ours (omega (arith, step, clean)) in
    let it = shows_versions c.args.origin in
    rw (p.1, p.2) (λ e ordered. stopped (store_schema c.args.origin) all_versions 0 _ _ version_cells it.0 it.1 it.2 (λ r. refl) old (state g.S.Store c.test_rows.new.conn) ours (in_order c.args.origin old.now ours ordered).versions.0
    (c.in_err-test_rows.ensures.caused clean (subst (λ s. IsTableQuery s all_versions (understood s all_versions)) (sym ours) (answers_versions c.args.origin)) e))

pub returns-in-Some-clause-checks : goal.returns-in-Some-clause-checks
returns-in-Some-clause-checks g c clean =
    let old = state g.S.Store c.args.conn.now in
    let step = c.test_rows.ensures.survives.clean in
    let ours = c.requires.ours (omega (arith, step, clean)) in
    let it = shows_versions c.args.origin in
    let h = checked (store_schema c.args.origin) all_versions 0 _ _ version_cells it.0 it.1 it.2 (λ r. refl) {A = Unit {0}} old _ _ AreVersionRows (Ok c.in_ok-test_rows.field-0) ours (λ ordered. (in_order c.args.origin old.now ours ordered).versions.0) (c.in_ok-test_rows.ensures.tests clean) in
    (h.0, λ ordered. rw c.in-Some.ensures.some at (h.1 ordered))

pub returns-in-None-clause-checks : goal.returns-in-None-clause-checks
returns-in-None-clause-checks g c clean =
    let old = state g.S.Store c.args.conn.now in
    let step = c.test_rows.ensures.survives.clean in
    let ours = c.requires.ours (omega (arith, step, clean)) in
    let it = shows_versions c.args.origin in
    let h = checked (store_schema c.args.origin) all_versions 0 _ _ version_cells it.0 it.1 it.2 (λ r. refl) {A = Unit {0}} old _ _ AreVersionRows (Ok c.in_ok-test_rows.field-0) ours (λ ordered. (in_order c.args.origin old.now ours ordered).versions.0) (c.in_ok-test_rows.ensures.tests clean) in
    (unchanged_keeps old (state g.S.Store c.test_rows.new.conn) (inl h.0), λ same ordered has. no_profile _ _ (h.1 ordered) c.in-None.ensures.none has.0 has.1)
