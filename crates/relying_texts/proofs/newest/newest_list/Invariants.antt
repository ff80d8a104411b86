use Rattle.std.proofs.Common.{◌≡◌, drop, None, option_map, filter_map}
use Rattle.statements_facts.specs.Coming.{crl_for}
use Rattle.statements_facts.specs.Newest.{held_after, newer_crl}
use Rattle.relying_texts.specs.View.{crl_slot_of, facts_in_all, list_fact_at}
use Rattle.relying_texts.proofs.newest.newest_list.Given as goal

abbrev pub invariant-loop-statement : goal.invariant-loop-statement
invariant-loop-statement l =
    held_after newer_crl (option_map list_fact_at l.newest) (filter_map (crl_for (crl_slot_of l.fn.issuer l.fn.point l.fn.scope)) (facts_in_all (drop l.statement-index l.genuine)))
    ≡ held_after newer_crl None (filter_map (crl_for (crl_slot_of l.fn.issuer l.fn.point l.fn.scope)) (facts_in_all l.genuine))
