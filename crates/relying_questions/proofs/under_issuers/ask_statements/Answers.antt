use Rattle.std.proofs.Common.{◌+◌, ◌++◌, drop, map, ap}
use Rattle.statements.specs.Statement.{seen_statement}
use Rattle.relying_questions.specs.Places.{ArePlaced, StatementsStand, placed_certificates}
use Rattle.relying_questions.specs.Questions.{asked_of_statement, asked_of_statements}
use Rattle.relying_questions.specs.Seen.{seen_all}
use Rattle.relying_questions.proofs.Adding.{one_left, one_more}
use Rattle.relying_questions.proofs.Kept.{kept_more, statement_stands_at}
use Rattle.relying_questions.proofs.under_issuers.ask_statements.Goals as goal

pub loop-index-preserved : goal.loop-index-preserved
loop-index-preserved c =
    let statements = c.args.statements.now in
    let issuers = placed_certificates c.args.issuers.now in
    let i = c.loop-index.index in
    let one = c.index-statements-index.result in
    let old = c.args.asked.now.items in
    let sofar = c.loop-index.asked.items in
    let new = c.ask_under_each.new.asked.items in (
      one_more (asked_of_statement issuers) (seen_all sofar) (seen_all new) (seen_statement one) (map seen_statement (drop i statements)) (map seen_statement (drop (i + 1) statements))
          (seen_all old ++ asked_of_statements issuers (map seen_statement statements))
          (ap (map seen_statement) (one_left statements i one c.loop-index-test.true c.index-statements-index.is)) c.in_ok-ask_under_each.ensures.asked c.loop-index.invariant.0,
      kept_more (λ texts. ArePlaced texts c.args.issuers.now × StatementsStand texts 0 (map seen_statement statements)) _ old sofar new
          c.loop-index.invariant.1 c.in_ok-ask_under_each.ensures.places
          (λ texts holds. (holds.0, statement_stands_at texts seen_statement statements i one holds.1 c.loop-index-test.true c.index-statements-index.is)),
    )
