use Rattle.std.proofs.Common.{arith}
use Rattle.sqlite.specs.Held.{state}
use Rattle.sqlite.specs.State.{HasCleanDisk}
use Rattle.store_rows.proofs.Laws.{as_refused}
use Rattle.store_migration.proofs.Beside.{version_set}
use Rattle.store_migration.proofs.Stopping.{version_stays, version_not_set}
use Rattle.store_migration.proofs.preparing.set_version.Goals as goal

pub returns-clause-sets : goal.returns-clause-sets
returns-clause-sets g c clean crls entries =
    let later = c.insert_version_of.ensures.survives.clean in
    let first : HasCleanDisk (state g.S.Store c.args.tx.now.conn.now) = omega (arith, clean, later, c.delete_version.ensures.survives.clean) in
    let one = c.in_ok-delete_version.ensures.runs (omega (arith, clean, later)) (c.requires.inside first) in
    let two = c.in_ok-insert_version_of.ensures.runs clean one.1.mode in
    version_set _ _ _ _ _ crls entries one two

pub returns-in_err-delete_version-clause-caused : goal.returns-in_err-delete_version-clause-caused
returns-in_err-delete_version-clause-caused g c crls entries clean =
    let first : HasCleanDisk (state g.S.Store c.args.tx.now.conn.now) = omega (arith, clean, c.delete_version.ensures.survives.clean) in
    let one = c.in_err-delete_version.ensures.runs clean (c.requires.inside first) in
    as_refused c.from_residual.result _ _ c.from_residual.ensures.1 (version_stays _ _ crls entries _ one)

pub returns-in_err-insert_version_of-clause-caused : goal.returns-in_err-insert_version_of-clause-caused
returns-in_err-insert_version_of-clause-caused g c crls entries clean =
    let middle : HasCleanDisk (state g.S.Store c.delete_version.new.tx.conn.now) = omega (arith, clean, c.insert_version_of.ensures.survives.clean) in
    let first : HasCleanDisk (state g.S.Store c.args.tx.now.conn.now) = omega (arith, middle, c.delete_version.ensures.survives.clean) in
    let one = c.in_ok-delete_version.ensures.runs middle (c.requires.inside first) in
    let two = c.in_err-insert_version_of.ensures.runs clean one.1.mode in
    as_refused c.from_residual-in_err-insert_version_of.result _ _ c.from_residual-in_err-insert_version_of.ensures.1
    (version_not_set _ _ _ _ _ c.delete_version.ensures.survives c.insert_version_of.ensures.survives middle crls entries _ _ one two)
