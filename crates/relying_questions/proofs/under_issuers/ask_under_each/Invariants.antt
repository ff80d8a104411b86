use Rattle.std.proofs.Common.{◌≡◌, ◌++◌, drop}
use Rattle.statements.specs.Statement.{seen_statement}
use Rattle.relying_questions.specs.Places.{ArePlaced, KeepsInTexts, StatementStands, placed_certificates, statement_text}
use Rattle.relying_questions.specs.Questions.{asked_of_statement}
use Rattle.relying_questions.specs.Seen.{seen_all}
use Rattle.relying_questions.proofs.under_issuers.ask_under_each.Given as goal

abbrev pub invariant-loop-issuer : goal.invariant-loop-issuer
invariant-loop-issuer l =
    (seen_all l.asked.items ++ asked_of_statement (placed_certificates (drop l.issuer-index l.issuers)) (seen_statement l.fn.statement)
    ≡ seen_all l.fn.asked.items ++ asked_of_statement (placed_certificates l.issuers) (seen_statement l.fn.statement))
    × KeepsInTexts (λ texts. ArePlaced texts l.issuers × StatementStands (statement_text texts l.fn.index) (seen_statement l.fn.statement)) l.fn.asked.items l.asked.items
