use Rattle.std.proofs.Common.{arith}
use Rattle.sqlite.specs.Held.{state}
use Rattle.sqlite.specs.State.{HasCleanDisk}
use Rattle.store_rows.proofs.Creating.{next_made}
use Rattle.store_sql.proofs.Laws.{ocsp_caused}
use Rattle.store_rows.proofs.Refused.{as_refused}
use Rattle.store_rows.proofs.Unmade.{crls_not_made}
use Rattle.store_rows.proofs.creation.make_next.Goals as goal

pub returns-clause-builds : goal.returns-clause-builds
returns-clause-builds g c clean =
    let later = c.create_scoped_crls.ensures.survives.clean in
    let first : HasCleanDisk (state g.S.Store c.args.tx.now.conn.now) = omega (arith, clean, later, c.create_ocsp.ensures.survives.clean) in
    let one = c.in_ok-create_ocsp.ensures.runs (omega (arith, clean, later)) (c.requires.inside first) in
    let two = c.in_ok-create_scoped_crls.ensures.runs clean one.1.mode in
    next_made _ _ _ _ _ one two

pub returns-in_err-create_ocsp-clause-caused : goal.returns-in_err-create_ocsp-clause-caused
returns-in_err-create_ocsp-clause-caused g c clean =
    let first : HasCleanDisk (state g.S.Store c.args.tx.now.conn.now) = omega (arith, clean, c.create_ocsp.ensures.survives.clean) in
    let one = c.in_err-create_ocsp.ensures.runs clean (c.requires.inside first) in
    as_refused c.from_residual.result _ _ c.from_residual.ensures.1 (λ e was. ocsp_caused _ _ was.schema_is _ one e)

pub returns-in_err-create_scoped_crls-clause-caused : goal.returns-in_err-create_scoped_crls-clause-caused
returns-in_err-create_scoped_crls-clause-caused g c clean =
    let middle : HasCleanDisk (state g.S.Store c.create_ocsp.new.tx.conn.now) = omega (arith, clean, c.create_scoped_crls.ensures.survives.clean) in
    let first : HasCleanDisk (state g.S.Store c.args.tx.now.conn.now) = omega (arith, middle, c.create_ocsp.ensures.survives.clean) in
    let one = c.in_ok-create_ocsp.ensures.runs middle (c.requires.inside first) in
    let two = c.in_err-create_scoped_crls.ensures.runs clean one.1.mode in
    as_refused c.from_residual-in_err-create_scoped_crls.result _ _ c.from_residual-in_err-create_scoped_crls.ensures.1 (λ e was.
    crls_not_made _ _ _ _ _ c.create_ocsp.ensures.survives c.create_scoped_crls.ensures.survives middle _ e _ one two was)
