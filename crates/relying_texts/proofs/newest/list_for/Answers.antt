use Rattle.std.proofs.Common.{sym, ap, ◌∙◌}
use Rattle.statements_facts.specs.Newest.{held_after, newer_crl}
use Rattle.statements_facts.specs.Statement.{kept_for}
use Rattle.relying_texts.specs.View.{crl_slot_of, identity_seen, list_fact, points_of}
use Rattle.relying_texts.proofs.Slots.{came_elsewhere, came_here, no_lists}
use Rattle.relying_texts.proofs.newest.list_for.Goals as goal

pub returns-then-is_kept_in : goal.returns-then-is_kept_in
returns-then-is_kept_in c held =
    let list = c.in-List.list in
    rw c.in-List.is (came_here (crl_slot_of c.args.issuer.now c.args.point.now c.args.scope) list.scope (list_fact list) held (kept_for (points_of list) (identity_seen c.args.statement.now.issuer.now))
    (sym c.is_kept_in.ensures ∙ c.if-is_kept_in.true))

pub returns-else-is_kept_in : goal.returns-else-is_kept_in
returns-else-is_kept_in c held =
    let list = c.in-List.list in
    rw c.in-List.is (came_elsewhere (crl_slot_of c.args.issuer.now c.args.point.now c.args.scope) list.scope (list_fact list) held (kept_for (points_of list) (identity_seen c.args.statement.now.issuer.now))
    (sym c.is_kept_in.ensures ∙ c.if-is_kept_in.false))

pub returns-in-Singles : goal.returns-in-Singles
returns-in-Singles c held =
    rw c.in-Singles.is (ap (held_after newer_crl held) (sym (no_lists (crl_slot_of c.args.issuer.now c.args.point.now c.args.scope) (identity_seen c.args.statement.now.issuer.now) c.in-Singles.field-0)))
