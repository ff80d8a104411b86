use Rattle.std.proofs.Common.{◌≡◌, ◌++◌, drop}
use Rattle.relying_questions.specs.Places.{ArePlaced, LinksStand, Texts, placed_certificates}
use Rattle.relying_questions.specs.Seen.{issuers_of_links}
use Rattle.relying_questions.proofs.asking.issuers_of.Given as goal

abbrev pub invariant-loop-link : goal.invariant-loop-link
invariant-loop-link l =
    (placed_certificates l.issuers.items ++ issuers_of_links (drop l.link-index l.links) ≡ issuers_of_links l.links)
    × ((texts : Texts) → LinksStand texts l.links → ArePlaced texts l.issuers.items)
