use Rattle.std.proofs.Common.{[], arith}
use Rattle.std.proofs.lemmas.Result.{err_from_is_err_and}
use Rattle.store_sql.proofs.Laws.{if_err_then}
use Rattle.store_taking.proofs.Laws.{goes_then}
use Rattle.store_migration.specs.Moved.{IsOld, HasNewTables, HasMoved}
use Rattle.sqlite.specs.Held.{state}
use Rattle.sqlite.specs.State.{HasCleanDisk}
use Rattle.store_migration.proofs.Stopping.{stop_then}
use Rattle.store_migration.proofs.preparing.prepare.Goals as goal

pub set_version-requires : goal.set_version-requires
set_version-requires g c = record { inside = λ clean. (c.in_ok-make_tables.ensures.makes clean [] []).mode }

pub returns-in_err-make_tables-clause-prepares : goal.returns-in_err-make_tables-clause-prepares
returns-in_err-make_tables-clause-prepares g c clean crls entries =
    let p = err_from_is_err_and c.from_residual.result c.from_residual.ensures.1 in
    rw (p.1, p.2) (c.in_err-make_tables.ensures.makes clean crls entries)

pub returns-clause-prepares : goal.returns-clause-prepares
returns-clause-prepares g c clean crls entries =
    goes_then _ _ _ (IsOld crls entries) (HasNewTables crls entries) (λ done. HasMoved crls entries []) c.set_version.result
    (c.in_ok-make_tables.ensures.makes (omega (arith, clean, c.set_version.ensures.survives.clean)) crls entries) (c.set_version.ensures.sets clean crls entries)

pub returns-clause-caused : goal.returns-clause-caused
returns-clause-caused g c crls entries clean =
    let middle : HasCleanDisk (state g.S.Store c.make_tables.new.tx.conn.now) = omega (arith, clean, c.set_version.ensures.survives.clean) in
    if_err_then c.set_version.result _ _ (c.set_version.ensures.caused crls entries clean) (λ fault caused.
    stop_then _ _ _ _ _ c.make_tables.ensures.survives c.set_version.ensures.survives middle (IsOld crls entries) (HasNewTables crls entries) fault
    (c.in_ok-make_tables.ensures.makes middle crls entries) caused)
