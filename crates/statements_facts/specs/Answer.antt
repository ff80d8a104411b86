-- What the code has at hand of the newest statements, as the definitions see it.
use Rattle.statements_facts.specs.Statement.{CrlAnswer, OcspFact}
use Rattle.statements_facts.specs.declared.answer.CrlAnswer as listed
use Rattle.statements_facts.specs.declared.answer.OcspAnswer as responded

abbrev pub seen_crl : listed.CrlAnswer → CrlAnswer
seen_crl crl = record { number = crl.number; window = record { from = crl.from; until = crl.until }; reason = crl.reason }

abbrev pub seen_ocsp : responded.OcspAnswer → OcspFact
seen_ocsp ocsp = record {
  times = record { this_update = ocsp.this_update; produced_at = ocsp.produced_at };
  window = record { from = ocsp.from; until = ocsp.until };
  status = ocsp.status;
}
