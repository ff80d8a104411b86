use Rattle.std.proofs.Common.{◌≡◌, drop, map, option_map}
use Rattle.statements_facts.specs.Newest.{held_after, newer_ocsp}
use Rattle.statements_facts.specs.Single.{seen_single}
use Rattle.statements_facts.specs.Answer.{seen_ocsp}
use Rattle.relying_texts.specs.View.{singles_for}
use Rattle.relying_texts.proofs.responses.newest_single.Given as goal

abbrev pub invariant-loop-single : goal.invariant-loop-single
invariant-loop-single l =
    held_after newer_ocsp (option_map seen_ocsp l.newest) (singles_for l.fn.name_hash l.fn.serial (map seen_single (drop l.single-index l.singles)))
    ≡ held_after newer_ocsp (option_map seen_ocsp l.fn.held) (singles_for l.fn.name_hash l.fn.serial (map seen_single l.singles))
