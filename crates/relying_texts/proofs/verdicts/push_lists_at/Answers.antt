use Rattle.std.proofs.Common.{None, filter_map, option_map, ap, ◌∙◌}
use Rattle.asn.specs.Place.{body, seen_tlv}
use Rattle.statements_facts.specs.declared.scope.Scope.TheVariants.{All}
use Rattle.statements_facts.specs.Coming.{crl_for}
use Rattle.statements_facts.specs.Newest.{held_after, newer_crl}
use Rattle.statements_facts.specs.Statement.{answer_for}
use Rattle.relying_texts.specs.View.{crl_slot_of, facts_in_all}
use Rattle.relying_texts.proofs.Bearing.{both_added}
use Rattle.relying_texts.proofs.verdicts.push_lists_at.Goals as goal

pub returns : goal.returns
returns c =
    let facts = facts_in_all c.args.genuine.now in
    let issuer = c.args.link.now.issuer.now in
    let serial = c.args.link.now.certificate.now.serial in
    both_added c.args.lists.now.items c.push.new.self.items c.push-2.new.self.items c.list_answer.result c.list_answer-2.result _ _
    c.in_ok-push.ensures.items c.in_ok-push-2.ensures.items
    (c.list_answer.ensures ∙ ap (λ s. option_map (answer_for s) (held_after newer_crl None (filter_map (crl_for (crl_slot_of issuer c.args.point.now All)) facts))) serial.body_is)
    (c.list_answer-2.ensures
    ∙ ap (λ s. option_map (answer_for s) (held_after newer_crl None (filter_map (crl_for (crl_slot_of issuer c.args.point.now c.own_scope.result)) facts))) serial.body_is
    ∙ ap (λ k. option_map (answer_for (body (seen_tlv serial))) (held_after newer_crl None (filter_map (crl_for (crl_slot_of issuer c.args.point.now k)) facts))) c.own_scope.ensures)
