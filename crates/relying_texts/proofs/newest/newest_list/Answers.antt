use Rattle.std.proofs.Common.{◌+◌, None, drop, option_map, filter_map, ◌∙◌}
use Rattle.statements_facts.specs.Coming.{crl_for}
use Rattle.statements_facts.specs.Newest.{held_after, newer_crl}
use Rattle.relying_texts.specs.View.{crl_slot_of, facts_of_genuine, facts_in_all, list_fact_at}
use Rattle.relying_texts.proofs.Folding.{came, one_left}
use Rattle.relying_texts.proofs.newest.newest_list.Goals as goal

pub loop-statement-preserved : goal.loop-statement-preserved
loop-statement-preserved c =
    let of = crl_for (crl_slot_of c.args.issuer.now c.args.point.now c.args.scope) in
    let all = c.args.genuine.now in
    let i = c.loop-statement.statement-index in
    came newer_crl facts_of_genuine of (option_map list_fact_at c.loop-statement.newest) (option_map list_fact_at c.newer_list-newest.result) c.statement-item.result
    (drop i all) (drop (i + 1) all) (held_after newer_crl None (filter_map of (facts_in_all all)))
    (one_left all i c.statement-item.result c.loop-statement-test.true c.statement-item.is)
    (c.newer_list-newest.ensures ∙ c.list_for.ensures (option_map list_fact_at c.loop-statement.newest))
    c.loop-statement.invariant
