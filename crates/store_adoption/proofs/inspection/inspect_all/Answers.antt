use Rattle.std.proofs.Common.{◌≡◌, rules, arith, Ok, Err}
use Rattle.std.proofs.lemmas.Result.{err_from_is_err_and}
use Rattle.sqlite.specs.Held.{state}
use Rattle.sqlite.specs.State.{HasCleanDisk}
use Rattle.sqlite.proofs.StateLemmas.{survives_then}
use Rattle.store_sql.specs.Tables.{store_schema}
use Rattle.statements_facts.specs.declared.profile.Profile.{Profile}
use Rattle.store_adoption.specs.Inspects.{HasProfile, HasRows, HasVersionOf, IsStore, IsStoreUnder}
use Rattle.store_adoption.proofs.Inspecting.{checks_then, first_fails, later_caused}
use Rattle.store_adoption.proofs.Adopting.{store_of, rows_of, version_of_store}
use Rattle.store_adoption.proofs.inspection.inspect_all.Goals as goal

pub returns-in_err-profile-clause-inspects : goal.returns-in_err-profile-clause-inspects
returns-in_err-profile-clause-inspects g c clean =
    let p = err_from_is_err_and c.from_residual.result c.from_residual.ensures.1 in
    let old = state g.S.Store c.args.conn.now in
    rw (p.1, p.2) (first_fails old (state g.S.Store c.inspect_version.new.conn) HasProfile IsStore _ (c.in_err-profile.ensures.checks clean) (λ ordered it. version_of_store old.now it))

pub returns-in_err-inspect_rows-clause-inspects : goal.returns-in_err-inspect_rows-clause-inspects
returns-in_err-inspect_rows-clause-inspects g c clean =
    let p = err_from_is_err_and c.from_residual-in_err-inspect_rows.result c.from_residual-in_err-inspect_rows.ensures.1 in
    let old = state g.S.Store c.args.conn.now in
    let mid = state g.S.Store c.inspect_version.new.conn in
    let origin = c.in-Some.origin in
    let has : old.now.schema ≡ store_schema origin = search rules in
    let step = c.inspect_rows.ensures.survives.clean in
    rw (p.1, p.2) (checks_then {A = Profile} {B = Unit {0}} old mid (state g.S.Store c.inspect_rows.new.conn) HasVersionOf (λ _. HasRows origin) (HasRows origin) (λ _ _. Unit {0}) IsStore c.in_ok-profile.profile (Err _)
    (c.in_ok-profile.ensures.checks (omega (arith, step, clean))) (c.in_err-inspect_rows.ensures.checks clean) (λ done ordered version rows. tt) (λ ordered version it. rows_of origin old.now has it))

pub returns-clause-inspects : goal.returns-clause-inspects
returns-clause-inspects g c clean =
    let old = state g.S.Store c.args.conn.now in
    let mid = state g.S.Store c.inspect_version.new.conn in
    let origin = c.in-Some.origin in
    let profile = c.in_ok-profile.profile in
    let has : old.now.schema ≡ store_schema origin = search rules in
    let step = c.inspect_rows.ensures.survives.clean in
    let first = c.in_ok-profile.ensures.checks (omega (arith, step, clean)) in
    checks_then {A = Profile} {B = Unit {0}} old mid (state g.S.Store c.inspect_rows.new.conn) HasVersionOf (λ _. HasRows origin) (HasRows origin) (λ _. IsStoreUnder profile) IsStore profile (Ok c.in_ok-inspect_rows.field-0)
    first (c.in_ok-inspect_rows.ensures.checks clean) (λ done ordered version rows. store_of profile origin old.now has (c.schema.ensures.live first.0.0.was_open).0 ordered version rows) (λ ordered version it. rows_of origin old.now has it)

pub returns-in_err-inspect_rows-clause-caused : goal.returns-in_err-inspect_rows-clause-caused
returns-in_err-inspect_rows-clause-caused g c clean =
    let p = err_from_is_err_and c.from_residual-in_err-inspect_rows.result c.from_residual-in_err-inspect_rows.ensures.1 in
    let mid = state g.S.Store c.inspect_version.new.conn in
    let before : HasCleanDisk mid = omega (arith, clean, c.inspect_rows.ensures.survives.clean) in
    rw (p.1, p.2) (later_caused (state g.S.Store c.args.conn.now) mid (state g.S.Store c.inspect_rows.new.conn) _ (c.in_ok-profile.ensures.checks before).0 c.inspect_version.ensures.survives c.inspect_rows.ensures.survives before (c.in_err-inspect_rows.ensures.caused clean))
