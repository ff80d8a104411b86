use Rattle.std.proofs.Common.{◌≡◌, ◌++◌, drop, map}
use Rattle.statements.specs.Statement.{seen_statement}
use Rattle.relying_questions.specs.Places.{ArePlaced, KeepsInTexts, StatementsStand, placed_certificates}
use Rattle.relying_questions.specs.Questions.{asked_of_statements}
use Rattle.relying_questions.specs.Seen.{seen_all}
use Rattle.relying_questions.proofs.under_issuers.ask_statements.Given as goal

abbrev pub invariant-loop-index : goal.invariant-loop-index
invariant-loop-index l =
    (seen_all l.asked.items ++ asked_of_statements (placed_certificates l.fn.issuers) (map seen_statement (drop l.index l.statements))
    ≡ seen_all l.fn.asked.items ++ asked_of_statements (placed_certificates l.fn.issuers) (map seen_statement l.statements))
    × KeepsInTexts (λ texts. ArePlaced texts l.fn.issuers × StatementsStand texts 0 (map seen_statement l.statements)) l.fn.asked.items l.asked.items
