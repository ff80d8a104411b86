use Rattle.std.proofs.Common.{arith}
use Rattle.sqlite.specs.Held.{state}
use Rattle.sqlite.specs.State.{HasCleanDisk}
use Rattle.store_rows.proofs.Creating.{first_made}
use Rattle.store_sql.proofs.Laws.{meta_caused}
use Rattle.store_rows.proofs.Refused.{as_refused}
use Rattle.store_rows.proofs.Unmade.{issuers_not_made}
use Rattle.store_rows.proofs.creation.make_first.Goals as goal

pub returns-clause-builds : goal.returns-clause-builds
returns-clause-builds g c clean =
    let later = c.create_issuers.ensures.survives.clean in
    let first : HasCleanDisk (state g.S.Store c.args.tx.now.conn.now) = omega (arith, clean, later, c.create_meta.ensures.survives.clean) in
    let one = c.in_ok-create_meta.ensures.runs (omega (arith, clean, later)) (c.requires.inside first) in
    let two = c.in_ok-create_issuers.ensures.runs clean one.1.mode in
    first_made _ _ _ _ _ one two

pub returns-in_err-create_meta-clause-caused : goal.returns-in_err-create_meta-clause-caused
returns-in_err-create_meta-clause-caused g c clean =
    let first : HasCleanDisk (state g.S.Store c.args.tx.now.conn.now) = omega (arith, clean, c.create_meta.ensures.survives.clean) in
    let one = c.in_err-create_meta.ensures.runs clean (c.requires.inside first) in
    as_refused c.from_residual.result _ _ c.from_residual.ensures.1 (λ e was. meta_caused _ _ was.schema_is _ one e)

pub returns-in_err-create_issuers-clause-caused : goal.returns-in_err-create_issuers-clause-caused
returns-in_err-create_issuers-clause-caused g c clean =
    let middle : HasCleanDisk (state g.S.Store c.create_meta.new.tx.conn.now) = omega (arith, clean, c.create_issuers.ensures.survives.clean) in
    let first : HasCleanDisk (state g.S.Store c.args.tx.now.conn.now) = omega (arith, middle, c.create_meta.ensures.survives.clean) in
    let one = c.in_ok-create_meta.ensures.runs middle (c.requires.inside first) in
    let two = c.in_err-create_issuers.ensures.runs clean one.1.mode in
    as_refused c.from_residual-in_err-create_issuers.result _ _ c.from_residual-in_err-create_issuers.ensures.1 (λ e was.
    issuers_not_made _ _ _ _ _ c.create_meta.ensures.survives c.create_issuers.ensures.survives middle _ e _ one two was)
