use Rattle.std.proofs.Common.{map, option_map, sym, ap, ◌∙◌}
use Rattle.statements_facts.specs.Single.{seen_single}
use Rattle.statements_facts.specs.Answer.{seen_ocsp}
use Rattle.statements_facts.specs.Newest.{held_after, newer_ocsp}
use Rattle.statements_facts.specs.Statement.{kept_for}
use Rattle.relying_texts.specs.View.{identity_seen, list_fact, ocsp_slot_of, points_of}
use Rattle.relying_texts.proofs.Slots.{came_of_the_issuer, came_of_another, no_responses}
use Rattle.relying_texts.proofs.responses.newest_of.Goals as goal

pub returns-then-is_same_issuer : goal.returns-then-is_same_issuer
returns-then-is_same_issuer c =
    rw c.in-Singles.is (came_of_the_issuer (option_map seen_ocsp c.args.held) (option_map seen_ocsp c.newest_single.result)
    (ocsp_slot_of c.args.issuer.now c.args.name_hash.now c.args.serial.now) (identity_seen c.args.statement.now.issuer.now) c.in-Singles.singles (map seen_single c.as_slice.result.now)
    (sym c.is_same_issuer.ensures ∙ c.if-is_same_issuer.true) c.as_slice.ensures.singles c.newest_single.ensures)

pub returns-else-is_same_issuer : goal.returns-else-is_same_issuer
returns-else-is_same_issuer c =
    rw c.in-Singles.is (came_of_another (option_map seen_ocsp c.args.held)
    (ocsp_slot_of c.args.issuer.now c.args.name_hash.now c.args.serial.now) (identity_seen c.args.statement.now.issuer.now) c.in-Singles.singles
    (sym c.is_same_issuer.ensures ∙ c.if-is_same_issuer.false))

pub returns-in-List : goal.returns-in-List
returns-in-List c =
    let list = c.in-List.field-0 in
    rw c.in-List.is (ap (held_after newer_ocsp (option_map seen_ocsp c.args.held)) (sym (no_responses (ocsp_slot_of c.args.issuer.now c.args.name_hash.now c.args.serial.now) list.scope (list_fact list)
    (kept_for (points_of list) (identity_seen c.args.statement.now.issuer.now)))))
