use Rattle.asn.specs.Place.{seen_tlv}
use Rattle.cert.specs.Certificate.{seen_certificate}
use Rattle.cert.specs.Offsets.{StandsIn}
use Rattle.statements_ocsp.specs.OcspResponse.{seen_response}
use Rattle.relying_questions.specs.Places.{IsPlaced, ResponseStands}
use Rattle.relying_questions.proofs.Kept.{kept_by}
use Rattle.relying_questions.proofs.Standing.{delegate_stands}
use Rattle.relying_questions.proofs.statement_questions.ask_value.Goals as goal

pub returns-in-Ok-clause-places : goal.returns-in-Ok-clause-places
returns-in-Ok-clause-places c =
    kept_by c.ask_delegate.result
    (λ texts. IsPlaced texts c.args.issuer.now × ResponseStands (texts c.args.source) (seen_response c.args.response.now) × StandsIn (texts c.args.source) (seen_tlv c.args.value))
    _ c.args.asked.now.items c.ask_delegate.new.asked.items c.ask_delegate.ensures.places
    (λ texts holds. (holds.0, holds.1, delegate_stands (texts c.args.source) (seen_tlv c.args.value) (seen_certificate c.in-Ok.certificate) holds.2 c.in-Ok.ensures))
