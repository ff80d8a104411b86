use Rattle.std.proofs.Common.{◌++◌, subst}
use Rattle.std.specs.List.{AllByRecursion, flat_map}
use Rattle.asn.specs.Place.{seen_tlv}
use Rattle.cert.specs.Offsets.{StandsIn}
use Rattle.statements_ocsp.specs.OcspResponse.{certs_left, seen_response}
use Rattle.relying_questions.specs.Places.{IsPlaced, ResponseStands}
use Rattle.relying_questions.specs.Seen.{asked_of_value_seen, seen_all}
use Rattle.relying_questions.proofs.Adding.{one_more}
use Rattle.relying_questions.proofs.Kept.{kept_more}
use Rattle.relying_questions.proofs.statement_questions.ask_values.Goals as goal

pub loop-value-preserved : goal.loop-value-preserved
loop-value-preserved c =
    let asks = asked_of_value_seen c.args.issuer.now c.args.response.now in
    let old = c.args.asked.now.items in
    let sofar = c.loop-value.asked.items in
    let new = c.ask_value.new.asked.items in
    let handed = c.in-Some.ensures in (
      one_more asks (seen_all sofar) (seen_all new) (seen_tlv c.in-Some.value) (certs_left c.loop-value.certs) (certs_left c.next.new.self)
          (seen_all old ++ flat_map asks (certs_left c.args.response.now.certs)) handed c.in_ok-ask_value.ensures.asked c.loop-value.invariant.0,
      kept_more (λ texts. IsPlaced texts c.args.issuer.now × ResponseStands (texts c.args.source) (seen_response c.args.response.now)) _ old sofar new
          c.loop-value.invariant.1 c.in_ok-ask_value.ensures.places
          (λ texts holds. (holds.0, holds.1, (subst (AllByRecursion (StandsIn (texts c.args.source))) handed (c.loop-value.invariant.2 (texts c.args.source) holds.1.certs)).0)),
      λ text all. (subst (AllByRecursion (StandsIn text)) handed (c.loop-value.invariant.2 text all)).1,
    )
