use Rattle.std.proofs.Common.{◌≡◌, ◌++◌, drop, map}
use Rattle.path_issuers.specs.View.{seen_search}
use Rattle.relying_questions.specs.FindingQuestions.{asked_of_pair}
use Rattle.relying_questions.specs.Issuers.{IssuersAreThere}
use Rattle.relying_questions.specs.Places.{KeepsInTexts, SearchStands}
use Rattle.relying_questions.specs.Seen.{seen_all}
use Rattle.relying_questions.proofs.finding.ask_pairs.Given as goal

abbrev pub invariant-loop-pair : goal.invariant-loop-pair
invariant-loop-pair l =
    (seen_all l.asked.items ++ map (asked_of_pair (seen_search l.fn.search)) (drop l.pair-index l.pairs)
    ≡ seen_all l.fn.asked.items ++ map (asked_of_pair (seen_search l.fn.search)) l.pairs)
    × KeepsInTexts (λ texts. SearchStands texts (seen_search l.fn.search) × IssuersAreThere (seen_search l.fn.search) l.pairs) l.fn.asked.items l.asked.items
