use Rattle.std.proofs.Common.{arith}
use Rattle.sqlite.specs.Held.{state}
use Rattle.sqlite.specs.State.{HasCleanDisk}
use Rattle.statements_facts.specs.Single.{seen_single}
use Rattle.store_rows.proofs.Singles.{single_moves}
use Rattle.store_rows.proofs.Refused.{as_refused, single_not_deleted, single_not_replaced}
use Rattle.store_rows.proofs.single.replace_single.Goals as goal

pub returns-clause-changes : goal.returns-clause-changes
returns-clause-changes g c clean =
    let later = c.insert_single.ensures.survives.clean in
    let first : HasCleanDisk (state g.S.Store c.args.tx.now.conn.now) = omega (arith, clean, later, c.delete_single.ensures.survives.clean) in
    let one = c.in_ok-delete_single.ensures.runs (omega (arith, clean, later)) (c.requires.inside first) in
    let two = c.in_ok-insert_single.ensures.runs clean one.1.mode in
    single_moves _ _ _ c.args.issuer c.args.single.now.name_hash c.args.single.now.serial.now (seen_single c.args.single.now).fact _ _ _ c.columns_of-said.ensures (rw (c.key_of-key.ensures.issuer, c.key_of-key.ensures.name_hash, c.key_of-key.ensures.serial) at one) (rw (c.key_of-key.ensures.issuer, c.key_of-key.ensures.name_hash, c.key_of-key.ensures.serial) at two)

pub returns-in_err-delete_single-clause-caused : goal.returns-in_err-delete_single-clause-caused
returns-in_err-delete_single-clause-caused g c clean =
    let first : HasCleanDisk (state g.S.Store c.args.tx.now.conn.now) = omega (arith, clean, c.delete_single.ensures.survives.clean) in
    let one = rw (c.key_of-key.ensures.issuer, c.key_of-key.ensures.name_hash, c.key_of-key.ensures.serial) at (c.in_err-delete_single.ensures.runs clean (c.requires.inside first)) in
    as_refused c.from_residual.result _ _ c.from_residual.ensures.1 (λ e origin it held form room. single_not_deleted origin _ _ it held c.args.issuer _ _ _ one e)

pub returns-in_err-insert_single-clause-caused : goal.returns-in_err-insert_single-clause-caused
returns-in_err-insert_single-clause-caused g c clean =
    let later = c.insert_single.ensures.survives.clean in
    let middle : HasCleanDisk (state g.S.Store c.delete_single.new.tx.conn.now) = omega (arith, clean, later) in
    let first : HasCleanDisk (state g.S.Store c.args.tx.now.conn.now) = omega (arith, middle, c.delete_single.ensures.survives.clean) in
    let one = c.in_ok-delete_single.ensures.runs middle (c.requires.inside first) in
    let two = rw (c.key_of-key.ensures.issuer, c.key_of-key.ensures.name_hash, c.key_of-key.ensures.serial, c.columns_of-said.ensures) at (c.in_err-insert_single.ensures.runs clean one.1.mode) in
    as_refused c.from_residual-in_err-insert_single.result _ _ c.from_residual-in_err-insert_single.ensures.1 (λ e origin it held form room.
    single_not_replaced _ _ _ _ _ c.delete_single.ensures.survives c.insert_single.ensures.survives middle c.args.issuer _ _ (seen_single c.args.single.now).fact _
    (rw (c.key_of-key.ensures.issuer, c.key_of-key.ensures.name_hash, c.key_of-key.ensures.serial) at one) _ two e origin it held room.0 room.1)
