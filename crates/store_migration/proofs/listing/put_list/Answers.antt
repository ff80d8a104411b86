use Rattle.std.proofs.Common.{◌<◌, ◌≤◌, ◌∙◌, ap, rules}
use Rattle.std.proofs.lemmas.Result.{err_from_is_err_and}
use Rattle.sqlite.specs.Held.{state}
use Rattle.store_adoption.specs.Seen.{seen_unscoped_list}
use Rattle.statements_facts.specs.Listed.{first_reason}
use Rattle.store_migration.proofs.Moving.{list_moves, list_stops}
use Rattle.store_migration.proofs.Stopping.{issuer_has_room, list_not_moved}
use Rattle.store_migration.proofs.listing.put_list.Goals as goal

pub returns-clause-puts : goal.returns-clause-puts
returns-clause-puts g c clean crls moved entries same next =
    let room : c.args.list.now.issuer < 536870911 = search rules in
    list_moves _ _ crls entries moved (seen_unscoped_list c.args.list.now) c.in_ok-revoked.revoked (c.in_ok-put_revoked.ensures.changes clean) c.in_ok-put_revoked.ensures.formed room (λ serial. c.in_ok-revoked.ensures.reasons serial ∙ ap (λ all. first_reason all serial) (same c.args.list.now.issuer)) next

pub returns-in_err-put_revoked-clause-puts : goal.returns-in_err-put_revoked-clause-puts
returns-in_err-put_revoked-clause-puts g c clean crls moved entries same next =
    let p = err_from_is_err_and c.from_residual-in_err-put_revoked.result c.from_residual-in_err-put_revoked.ensures.1 in
    rw (p.1, p.2) (list_stops _ _ crls entries moved _ (c.in_err-put_revoked.ensures.changes clean))

pub returns-in_err-put_revoked-clause-caused : goal.returns-in_err-put_revoked-clause-caused
returns-in_err-put_revoked-clause-caused g c crls moved entries same fit next clean =
    let p = err_from_is_err_and c.from_residual-in_err-put_revoked.result c.from_residual-in_err-put_revoked.ensures.1 in
    rw (p.1, p.2) (list_not_moved (state g.S.Store c.args.tx.now.conn.now) (state g.S.Store c.put_revoked.new.tx.conn.now) crls moved entries (seen_unscoped_list c.args.list.now) c.in_ok-revoked.revoked _ next c.in_ok-revoked.ensures.ascend
    (λ serial. c.in_ok-revoked.ensures.reasons serial ∙ ap (λ all. first_reason all serial) (same c.args.list.now.issuer)) (fit c.args.list.now.issuer) (c.in_err-put_revoked.ensures.caused clean))

pub returns-then-list-ge-ID_LIMIT-clause-caused : goal.returns-then-list-ge-ID_LIMIT-clause-caused
returns-then-list-ge-ID_LIMIT-clause-caused g c crls moved entries same fit next clean e held m =
    let high : 536870911 ≤ c.args.list.now.issuer = search rules in
    absurd (issuer_has_room crls moved entries (seen_unscoped_list c.args.list.now) next (state g.S.Store c.args.tx.now.conn.now).now held m high)
