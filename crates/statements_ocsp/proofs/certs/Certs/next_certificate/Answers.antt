use Rattle.std.proofs.Common.{rules}
use Rattle.asn.specs.Place.{seen_tlv}
use Rattle.statements_ocsp.specs.OcspResponse.{certs_left}
use Rattle.statements_ocsp.proofs.PassedValues.{past_refused}
use Rattle.statements_ocsp.proofs.certs.Certs.next_certificate.Goals as goal

pub loop-value-preserved : goal.loop-value-preserved
loop-value-preserved c =
    past_refused (certs_left c.args.self.now) (certs_left c.loop-value.self) (certs_left c.loop-value.behind) (certs_left c.next.new.self) (seen_tlv c.in-Some.value)
    (c.in-Err-Refused.field-0-0, c.in-Err-Refused.field-0-1) (search rules) c.in-Some.ensures c.loop-value.invariant
