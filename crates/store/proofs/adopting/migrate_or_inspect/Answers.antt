use Rattle.std.proofs.Common.{◌≡◌, ◌≢◌, rules, sym, ◌∙◌, true≢false}
use Rattle.sqlite.specs.Held.{state}
use Rattle.sqlite.proofs.StateLemmas.{survives_weaker}
use Rattle.statements_facts.specs.declared.profile.Profile.TheVariants.{Stated}
use Rattle.store_sql.specs.Tables.{version_1_schema}
use Rattle.store_sql.proofs.Laws.{if_err_then}
use Rattle.store_migration.specs.Migrates.{LeavesMigrated}
use Rattle.store.proofs.Over.{inspects_over, migrates_over}
use Rattle.store.proofs.adopting.migrate_or_inspect.Goals as goal

pub returns-then-is_to_migrate-clause-takes : goal.returns-then-is_to_migrate-clause-takes
returns-then-is_to_migrate-clause-takes g c clean =
    let old = state g.S.Store c.args.conn.now in
    let is = c.is_to_migrate.ensures.0 c.if-is_to_migrate.true in
    let has : old.now.schema ≡ version_1_schema = search rules in
    migrates_over c.args.profile old _ c.migrate.result is.0 has (c.migrate.ensures.migrates clean)

pub returns-else-is_to_migrate-clause-takes : goal.returns-else-is_to_migrate-clause-takes
returns-else-is_to_migrate-clause-takes g c clean =
    let old = state g.S.Store c.args.conn.now in
    let far : c.args.profile ≡ Stated → old.now.schema ≢ version_1_schema = search rules in
    inspects_over c.args.profile old _ c.inspect_under.result far (c.inspect_under.ensures.inspects clean)

pub returns-else-is_to_migrate-clause-crash : goal.returns-else-is_to_migrate-clause-crash
returns-else-is_to_migrate-clause-crash g c =
    let old = state g.S.Store c.args.conn.now in
    survives_weaker old (state g.S.Store c.inspect_under.new.conn) (λ _. ⊥) (LeavesMigrated old) (λ clean db none. absurd none) c.inspect_under.ensures.survives

pub returns-then-is_to_migrate-clause-caused : goal.returns-then-is_to_migrate-clause-caused
returns-then-is_to_migrate-clause-caused g c clean = c.migrate.ensures.caused clean

pub returns-else-is_to_migrate-clause-caused : goal.returns-else-is_to_migrate-clause-caused
returns-else-is_to_migrate-clause-caused g c clean = if_err_then c.inspect_under.result _ _ (c.inspect_under.ensures.caused clean) (λ fault caused e ordered fits. caused e ordered)
