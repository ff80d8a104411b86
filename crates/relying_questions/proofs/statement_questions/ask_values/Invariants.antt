use Rattle.std.proofs.Common.{◌≡◌, ◌++◌, ℕ, List, length}
use Rattle.std.specs.List.{AllByRecursion, flat_map}
use Rattle.cert.specs.Offsets.{StandsIn}
use Rattle.statements_ocsp.specs.OcspResponse.{certs_left, seen_response}
use Rattle.relying_questions.specs.Places.{IsPlaced, KeepsInTexts, ResponseStands}
use Rattle.relying_questions.specs.Seen.{asked_of_value_seen, seen_all}
use Rattle.relying_questions.proofs.statement_questions.ask_values.Given as goal

abbrev pub invariant-loop-value : goal.invariant-loop-value
invariant-loop-value l =
    (seen_all l.asked.items ++ flat_map (asked_of_value_seen l.fn.issuer l.fn.response) (certs_left l.certs)
    ≡ seen_all l.fn.asked.items ++ flat_map (asked_of_value_seen l.fn.issuer l.fn.response) (certs_left l.fn.response.certs))
    × KeepsInTexts (λ texts. IsPlaced texts l.fn.issuer × ResponseStands (texts l.fn.source) (seen_response l.fn.response)) l.fn.asked.items l.asked.items
    × ((text : List ℕ) → AllByRecursion (StandsIn text) (certs_left l.fn.response.certs) → AllByRecursion (StandsIn text) (certs_left l.certs))

abbrev pub decreases-loop-value : goal.decreases-loop-value
decreases-loop-value l = length (certs_left l.certs)
