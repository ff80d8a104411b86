use Rattle.std.proofs.Common.{◌+◌, None, drop, option_map, filter_map}
use Rattle.statements_facts.specs.Coming.{ocsp_for}
use Rattle.statements_facts.specs.Newest.{held_after, newer_ocsp}
use Rattle.statements_facts.specs.Answer.{seen_ocsp}
use Rattle.relying_texts.specs.View.{facts_of_genuine, facts_in_all, ocsp_slot_of}
use Rattle.relying_texts.proofs.Folding.{came, one_left}
use Rattle.relying_texts.proofs.responses.response_answer.Goals as goal

pub loop-statement-preserved : goal.loop-statement-preserved
loop-statement-preserved c =
    let of = ocsp_for (ocsp_slot_of c.args.issuer.now c.args.name_hash.now c.args.serial.now) in
    let all = c.args.genuine.now in
    let i = c.loop-statement.statement-index in
    came newer_ocsp facts_of_genuine of (option_map seen_ocsp c.loop-statement.newest) (option_map seen_ocsp c.newest_of-newest.result) c.statement-item.result
    (drop i all) (drop (i + 1) all) (held_after newer_ocsp None (filter_map of (facts_in_all all)))
    (one_left all i c.statement-item.result c.loop-statement-test.true c.statement-item.is) c.newest_of-newest.ensures c.loop-statement.invariant
