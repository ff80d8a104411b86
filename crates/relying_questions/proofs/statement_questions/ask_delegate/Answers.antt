use Rattle.statements_ocsp.specs.OcspResponse.{seen_response}
use Rattle.relying_questions.specs.Places.{IsPlaced, ResponseStands}
use Rattle.relying_questions.proofs.Kept.{kept_one}
use Rattle.relying_questions.proofs.statement_questions.ask_delegate.Goals as goal

pub returns-in_ok-push-2-clause-places : goal.returns-in_ok-push-2-clause-places
returns-in_ok-push-2-clause-places c =
    let old = c.args.asked.now.items in
    kept_one (λ texts. IsPlaced texts c.args.issuer.now × ResponseStands (texts c.args.source) (seen_response c.args.response.now) × IsPlaced texts c.args.delegate.now)
    old c.push.new.self.items c.push-then-may_sign_responses.new.self.items c.of_answers.result
    (kept_one (λ texts. IsPlaced texts c.args.issuer.now × ResponseStands (texts c.args.source) (seen_response c.args.response.now) × IsPlaced texts c.args.delegate.now)
    old old c.push.new.self.items c.of_certificate.result (λ texts holds all. all) c.in_ok-push.ensures.items
    (λ texts holds. c.of_certificate.ensures.places texts holds.0 holds.2))
    c.in_ok-push-2.ensures.items (λ texts holds. c.of_answers.ensures.places texts holds.2 holds.1)

pub returns-else-may_sign_responses-clause-places : goal.returns-else-may_sign_responses-clause-places
returns-else-may_sign_responses-clause-places c =
    let old = c.args.asked.now.items in
    kept_one (λ texts. IsPlaced texts c.args.issuer.now × ResponseStands (texts c.args.source) (seen_response c.args.response.now) × IsPlaced texts c.args.delegate.now)
    old old c.push.new.self.items c.of_certificate.result (λ texts holds all. all) c.in_ok-push.ensures.items
    (λ texts holds. c.of_certificate.ensures.places texts holds.0 holds.2)
