use Rattle.std.proofs.Common.{◌≡◌, ◌++◌, drop}
use Rattle.path_issuers.specs.View.{seen_search}
use Rattle.relying_questions.specs.Issuers.{MarkedAreThere}
use Rattle.relying_questions.specs.Places.{ArePlaced, SearchStands, Texts, placed_certificates}
use Rattle.relying_questions.proofs.Marking.{listed_from}
use Rattle.relying_questions.proofs.issuers.marked_issuers.Given as goal

abbrev pub invariant-loop-number : goal.invariant-loop-number
invariant-loop-number l =
    (placed_certificates l.issuers.items ++ listed_from (seen_search l.search) l.number (drop l.number l.marks)
    ≡ listed_from (seen_search l.search) 0 l.marks)
    × ((texts : Texts) → SearchStands texts (seen_search l.search) → MarkedAreThere (seen_search l.search) l.marks → ArePlaced texts l.issuers.items)
