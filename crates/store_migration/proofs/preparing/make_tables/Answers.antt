use Rattle.std.proofs.Common.{arith}
use Rattle.sqlite.specs.Held.{state}
use Rattle.sqlite.specs.State.{HasCleanDisk}
use Rattle.store_rows.proofs.Laws.{as_refused}
use Rattle.store_migration.proofs.Beside.{tables_made}
use Rattle.store_migration.proofs.Stopping.{crls_not_made, entries_not_made}
use Rattle.store_migration.proofs.preparing.make_tables.Goals as goal

pub returns-clause-makes : goal.returns-clause-makes
returns-clause-makes g c clean crls entries =
    let later = c.create_scoped_entries.ensures.survives.clean in
    let first : HasCleanDisk (state g.S.Store c.args.tx.now.conn.now) = omega (arith, clean, later, c.create_scoped_crls.ensures.survives.clean) in
    let one = c.in_ok-create_scoped_crls.ensures.runs (omega (arith, clean, later)) (c.requires.inside first) in
    let two = c.in_ok-create_scoped_entries.ensures.runs clean one.1.mode in
    tables_made _ _ _ _ _ crls entries one two

pub returns-in_err-create_scoped_crls-clause-caused : goal.returns-in_err-create_scoped_crls-clause-caused
returns-in_err-create_scoped_crls-clause-caused g c crls entries clean =
    let first : HasCleanDisk (state g.S.Store c.args.tx.now.conn.now) = omega (arith, clean, c.create_scoped_crls.ensures.survives.clean) in
    let one = c.in_err-create_scoped_crls.ensures.runs clean (c.requires.inside first) in
    as_refused c.from_residual.result _ _ c.from_residual.ensures.1 (crls_not_made _ _ crls entries _ one)

pub returns-in_err-create_scoped_entries-clause-caused : goal.returns-in_err-create_scoped_entries-clause-caused
returns-in_err-create_scoped_entries-clause-caused g c crls entries clean =
    let middle : HasCleanDisk (state g.S.Store c.create_scoped_crls.new.tx.conn.now) = omega (arith, clean, c.create_scoped_entries.ensures.survives.clean) in
    let first : HasCleanDisk (state g.S.Store c.args.tx.now.conn.now) = omega (arith, middle, c.create_scoped_crls.ensures.survives.clean) in
    let one = c.in_ok-create_scoped_crls.ensures.runs middle (c.requires.inside first) in
    let two = c.in_err-create_scoped_entries.ensures.runs clean one.1.mode in
    as_refused c.from_residual-in_err-create_scoped_entries.result _ _ c.from_residual-in_err-create_scoped_entries.ensures.1
    (entries_not_made _ _ _ _ _ c.create_scoped_crls.ensures.survives c.create_scoped_entries.ensures.survives middle crls entries _ _ one two)
