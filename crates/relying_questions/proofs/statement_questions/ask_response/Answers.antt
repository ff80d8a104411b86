use Rattle.statements_ocsp.specs.OcspResponse.{seen_response}
use Rattle.relying_questions.specs.Places.{placed_certificate}
use Rattle.relying_questions.specs.Seen.{seen_all}
use Rattle.relying_questions.proofs.Adding.{response_asked}
use Rattle.relying_questions.proofs.statement_questions.ask_response.Goals as goal

pub returns-clause-asked : goal.returns-clause-asked
returns-clause-asked c =
    response_asked c.ask_values.result (seen_all c.args.asked.now.items) (seen_all c.ask_issuer.new.asked.items) (seen_all c.ask_values.new.asked.items)
    (placed_certificate c.args.issuer.now) (seen_response c.args.response.now) c.in_ok-ask_issuer.ensures.asked c.ask_values.ensures.asked
