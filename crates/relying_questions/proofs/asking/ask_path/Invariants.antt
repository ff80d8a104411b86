use Rattle.std.proofs.Common.{◌≡◌, ◌++◌, drop}
use Rattle.relying_questions.specs.Places.{KeepsInTexts, LinksStand}
use Rattle.relying_questions.specs.Seen.{asked_of_links, seen_all}
use Rattle.relying_questions.proofs.asking.ask_path.Given as goal

abbrev pub invariant-loop-link : goal.invariant-loop-link
invariant-loop-link l =
    (seen_all l.asked.items ++ asked_of_links (drop l.link-index l.links) ≡ seen_all l.fn.asked.items ++ asked_of_links l.links)
    × KeepsInTexts (λ texts. LinksStand texts l.links) l.fn.asked.items l.asked.items
