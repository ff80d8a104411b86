use Rattle.std.proofs.Common.{arith}
use Rattle.sqlite.specs.Held.{state}
use Rattle.sqlite.specs.State.{HasCleanDisk}
use Rattle.store_rows.proofs.Creating.{last_made}
use Rattle.store_sql.specs.declared.origin.Origin.TheVariants.{Made}
use Rattle.store_sql.proofs.Laws.{entries_caused}
use Rattle.store_rows.proofs.Refused.{as_refused}
use Rattle.store_rows.proofs.Unmade.{version_not_set}
use Rattle.store_rows.specs.Contents.{version_number}
use Rattle.store_rows.proofs.creation.make_last.Goals as goal

pub returns-clause-makes : goal.returns-clause-makes
returns-clause-makes g c clean =
    let later = c.insert_version_of.ensures.survives.clean in
    let first : HasCleanDisk (state g.S.Store c.args.tx.now.conn.now) = omega (arith, clean, later, c.create_scoped_entries.ensures.survives.clean) in
    let one = c.in_ok-create_scoped_entries.ensures.runs (omega (arith, clean, later)) (c.requires.inside first) in
    let two = c.in_ok-insert_version_of.ensures.runs clean one.1.mode in
    last_made c.args.profile _ _ _ _ _ one two

pub returns-in_err-create_scoped_entries-clause-caused : goal.returns-in_err-create_scoped_entries-clause-caused
returns-in_err-create_scoped_entries-clause-caused g c clean =
    let first : HasCleanDisk (state g.S.Store c.args.tx.now.conn.now) = omega (arith, clean, c.create_scoped_entries.ensures.survives.clean) in
    let one = c.in_err-create_scoped_entries.ensures.runs clean (c.requires.inside first) in
    as_refused c.from_residual.result _ _ c.from_residual.ensures.1 (λ e was. entries_caused Made _ _ was.schema_is _ one e)

pub returns-in_err-insert_version_of-clause-caused : goal.returns-in_err-insert_version_of-clause-caused
returns-in_err-insert_version_of-clause-caused g c clean =
    let middle : HasCleanDisk (state g.S.Store c.create_scoped_entries.new.tx.conn.now) = omega (arith, clean, c.insert_version_of.ensures.survives.clean) in
    let first : HasCleanDisk (state g.S.Store c.args.tx.now.conn.now) = omega (arith, middle, c.create_scoped_entries.ensures.survives.clean) in
    let one = c.in_ok-create_scoped_entries.ensures.runs middle (c.requires.inside first) in
    let two = c.in_err-insert_version_of.ensures.runs clean one.1.mode in
    as_refused c.from_residual-in_err-insert_version_of.result _ _ c.from_residual-in_err-insert_version_of.ensures.1 (λ e was.
    version_not_set _ _ _ _ _ c.create_scoped_entries.ensures.survives c.insert_version_of.ensures.survives middle _ e _ (version_number c.args.profile) one two was)
