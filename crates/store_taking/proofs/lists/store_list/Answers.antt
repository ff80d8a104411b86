use Rattle.std.proofs.Common.{arith, subst}
use Rattle.sqlite.specs.Held.{state}
use Rattle.store_rows.specs.Contents.{CrlHead, scope_number}
use Rattle.store_rows.specs.Holding.{IsNumbered, with_crl, with_entries}
use Rattle.store_rows.specs.Steps.{Moves}
use Rattle.store_taking.specs.Lists.{crl_head}
use Rattle.store_taking.proofs.Chains.{changes_then}
use Rattle.store_taking.proofs.Forms.{crl_in_form}
use Rattle.sqlite.specs.State.{HasCleanDisk}
use Rattle.store_sql.proofs.Laws.{later_refuses, if_err_then}
use Rattle.store_taking.proofs.lists.store_list.Goals as goal

pub returns-clause-changes : goal.returns-clause-changes
returns-clause-changes g c clean =
    let head = crl_head c.args.list.now in
    let id = c.args.key.now.issuer in
    let scope = c.args.key.now.scope in
    changes_then _ _ _ (with_crl id scope head) (with_entries id (scope_number scope) c.args.list.now.revoked) c.replace_entries.result
    (subst (λ (h : CrlHead). Moves (state g.S.Store c.args.tx.now.conn.now) (state g.S.Store c.replace_crl.new.tx.conn.now) (with_crl id scope h)) c.head_of-head.ensures.head (c.in_ok-replace_crl.ensures.changes (omega (arith, clean, c.replace_entries.ensures.survives.clean)))) (c.replace_entries.ensures.changes clean)
    (λ it form. crl_in_form it id scope head form (subst IsNumbered c.head_of-head.ensures.head c.head_of-head.ensures.numbered))

pub returns-clause-caused : goal.returns-clause-caused
returns-clause-caused g c clean =
    let head = crl_head c.args.list.now in
    let id = c.args.key.now.issuer in
    let scope = c.args.key.now.scope in
    let middle : HasCleanDisk (state g.S.Store c.replace_crl.new.tx.conn.now) = omega (arith, clean, c.replace_entries.ensures.survives.clean) in
    let moves = subst (λ (h : CrlHead). Moves (state g.S.Store c.args.tx.now.conn.now) (state g.S.Store c.replace_crl.new.tx.conn.now) (with_crl id scope h)) c.head_of-head.ensures.head (c.in_ok-replace_crl.ensures.changes middle) in
    if_err_then c.replace_entries.result _ _ (c.replace_entries.ensures.caused clean) (λ fault caused e origin it held form room.
    later_refuses _ _ _ (λ _. ⊥) (λ _. ⊥) c.replace_crl.ensures.survives c.replace_entries.ensures.survives middle
    (caused e origin (with_crl id scope head it) (moves.rows origin it held form)
    (crl_in_form it id scope head form (subst IsNumbered c.head_of-head.ensures.head c.head_of-head.ensures.numbered)) room.1))
