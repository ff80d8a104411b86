use Rattle.std.proofs.Common.{◌+◌, ◌++◌, drop, ap}
use Rattle.std.specs.List.{flat_map}
use Rattle.statements.specs.Statement.{seen_statement}
use Rattle.relying_questions.specs.Places.{ArePlaced, IsPlaced, StatementStands, placed_certificate, placed_certificates, statement_text}
use Rattle.relying_questions.specs.Questions.{asked_under}
use Rattle.relying_questions.specs.Seen.{seen_all}
use Rattle.relying_questions.proofs.Adding.{one_left, one_more}
use Rattle.relying_questions.proofs.Kept.{each_at, kept_more}
use Rattle.relying_questions.proofs.under_issuers.ask_under_each.Goals as goal

pub loop-issuer-preserved : goal.loop-issuer-preserved
loop-issuer-preserved c =
    let issuers = c.args.issuers.now in
    let i = c.loop-issuer.issuer-index in
    let issuer = c.issuer-item.result in
    let asks = asked_under (seen_statement c.args.statement.now) in
    let old = c.args.asked.now.items in
    let sofar = c.loop-issuer.asked.items in
    let new = c.ask_statement.new.asked.items in (
      one_more asks (seen_all sofar) (seen_all new) (placed_certificate issuer) (placed_certificates (drop i issuers)) (placed_certificates (drop (i + 1) issuers))
          (seen_all old ++ flat_map asks (placed_certificates issuers))
          (ap placed_certificates (one_left issuers i issuer c.loop-issuer-test.true c.issuer-item.is)) c.in_ok-ask_statement.ensures.asked c.loop-issuer.invariant.0,
      kept_more (λ texts. ArePlaced texts issuers × StatementStands (statement_text texts c.args.index) (seen_statement c.args.statement.now)) _ old sofar new
          c.loop-issuer.invariant.1 c.in_ok-ask_statement.ensures.places
          (λ texts holds. (each_at (IsPlaced texts) issuers i issuer holds.0 c.loop-issuer-test.true c.issuer-item.is, holds.1)),
    )
