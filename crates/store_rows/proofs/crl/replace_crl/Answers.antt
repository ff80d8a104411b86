use Rattle.std.proofs.Common.{arith}
use Rattle.sqlite.specs.Held.{state}
use Rattle.sqlite.specs.State.{HasCleanDisk}
use Rattle.store_rows.specs.Seen.{seen_head}
use Rattle.store_rows.proofs.Crls.{crl_moves}
use Rattle.store_rows.proofs.Refused.{as_refused, crl_not_deleted, crl_not_replaced}
use Rattle.store_rows.proofs.crl.replace_crl.Goals as goal

pub returns-clause-changes : goal.returns-clause-changes
returns-clause-changes g c clean =
    let later = c.add_crl.ensures.survives.clean in
    let first : HasCleanDisk (state g.S.Store c.args.tx.now.conn.now) = omega (arith, clean, later, c.delete_crl.ensures.survives.clean) in
    let one = c.in_ok-delete_crl.ensures.runs (omega (arith, clean, later)) (c.requires.inside first) in
    let two = c.in_ok-add_crl.ensures.runs clean one.1.mode in
    crl_moves _ _ _ c.args.issuer c.args.scope (seen_head c.args.head.now) _ _ (rw (c.key_of-key.ensures.issuer, c.key_of-key.ensures.scope) at one) (rw (c.key_of-key.ensures.issuer, c.key_of-key.ensures.scope) at two)

pub returns-in_err-delete_crl-clause-caused : goal.returns-in_err-delete_crl-clause-caused
returns-in_err-delete_crl-clause-caused g c clean =
    let first : HasCleanDisk (state g.S.Store c.args.tx.now.conn.now) = omega (arith, clean, c.delete_crl.ensures.survives.clean) in
    let one = rw (c.key_of-key.ensures.issuer, c.key_of-key.ensures.scope) at (c.in_err-delete_crl.ensures.runs clean (c.requires.inside first)) in
    as_refused c.from_residual.result _ _ c.from_residual.ensures.1 (λ e origin it held form room. crl_not_deleted origin _ _ it held c.args.issuer c.args.scope _ one e)

pub returns-in_err-add_crl-clause-caused : goal.returns-in_err-add_crl-clause-caused
returns-in_err-add_crl-clause-caused g c clean =
    let later = c.add_crl.ensures.survives.clean in
    let middle : HasCleanDisk (state g.S.Store c.delete_crl.new.tx.conn.now) = omega (arith, clean, later) in
    let first : HasCleanDisk (state g.S.Store c.args.tx.now.conn.now) = omega (arith, middle, c.delete_crl.ensures.survives.clean) in
    let one = c.in_ok-delete_crl.ensures.runs middle (c.requires.inside first) in
    let two = rw (c.key_of-key.ensures.issuer, c.key_of-key.ensures.scope) at (c.in_err-add_crl.ensures.runs clean one.1.mode) in
    as_refused c.from_residual-in_err-add_crl.result _ _ c.from_residual-in_err-add_crl.ensures.1 (λ e origin it held form room.
    crl_not_replaced _ _ _ _ _ c.delete_crl.ensures.survives c.add_crl.ensures.survives middle c.args.issuer c.args.scope _ _ _ (rw (c.key_of-key.ensures.issuer, c.key_of-key.ensures.scope) at one) _ two e origin it held room)
