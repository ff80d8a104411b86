use Rattle.std.proofs.Common.{◌≡◌, drop, None, option_map, filter_map}
use Rattle.statements_facts.specs.Coming.{ocsp_for}
use Rattle.statements_facts.specs.Newest.{held_after, newer_ocsp}
use Rattle.statements_facts.specs.Answer.{seen_ocsp}
use Rattle.relying_texts.specs.View.{facts_in_all, ocsp_slot_of}
use Rattle.relying_texts.proofs.responses.response_answer.Given as goal

abbrev pub invariant-loop-statement : goal.invariant-loop-statement
invariant-loop-statement l =
    held_after newer_ocsp (option_map seen_ocsp l.newest) (filter_map (ocsp_for (ocsp_slot_of l.fn.issuer l.fn.name_hash l.fn.serial)) (facts_in_all (drop l.statement-index l.genuine)))
    ≡ held_after newer_ocsp None (filter_map (ocsp_for (ocsp_slot_of l.fn.issuer l.fn.name_hash l.fn.serial)) (facts_in_all l.genuine))
