use Rattle.std.proofs.Common.{arith}
use Rattle.statements_facts.specs.declared.scope.Scope.TheVariants.{All}
use Rattle.store_rows.specs.Holding.{with_crl, with_entries}
use Rattle.store_rows.specs.Seen.{seen_head}
use Rattle.store_taking.proofs.Laws.{changes_then, crl_in_form}
use Rattle.sqlite.specs.Held.{state}
use Rattle.sqlite.specs.State.{HasCleanDisk}
use Rattle.store_sql.proofs.Laws.{later_refuses, if_err_then}
use Rattle.store_migration.proofs.listing.put_revoked.Goals as goal

pub returns-clause-changes : goal.returns-clause-changes
returns-clause-changes g c clean =
    let head = seen_head c.args.list.now.head in
    let id = c.args.list.now.issuer in
    changes_then _ _ _ (with_crl id All head) (with_entries id 0 c.args.revoked.now) c.replace_entries.result (c.in_ok-replace_crl.ensures.changes (omega (arith, clean, c.replace_entries.ensures.survives.clean))) (c.replace_entries.ensures.changes clean)
    (λ it form. crl_in_form it id All head form c.is_numbered.ensures)

pub returns-clause-caused : goal.returns-clause-caused
returns-clause-caused g c clean =
    let head = seen_head c.args.list.now.head in
    let id = c.args.list.now.issuer in
    let middle : HasCleanDisk (state g.S.Store c.replace_crl.new.tx.conn.now) = omega (arith, clean, c.replace_entries.ensures.survives.clean) in
    if_err_then c.replace_entries.result _ _ (c.replace_entries.ensures.caused clean) (λ fault caused e origin it held form room.
    later_refuses _ _ _ (λ _. ⊥) (λ _. ⊥) c.replace_crl.ensures.survives c.replace_entries.ensures.survives middle
    (caused e origin (with_crl id All head it) ((c.in_ok-replace_crl.ensures.changes middle).rows origin it held form)
    (crl_in_form it id All head form c.is_numbered.ensures) room.1))
