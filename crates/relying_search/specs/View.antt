-- What the code has at hand, as the definitions see it.
use Rattle.std.specs.Prelude.{List, Option, map, option_map}
use Rattle.cert.specs.Certificate.{seen_certificate}
use Rattle.statements_facts.specs.Answer.{seen_crl, seen_ocsp}
use Rattle.statements_facts.specs.declared.answer.CrlAnswer as listed
use Rattle.statements_facts.specs.Statement.{CrlAnswer}
use Rattle.relying_agreement.specs.Link.{Link}
use Rattle.relying_agreement.specs.Status.{Evidence}
use Rattle.relying_search.specs.declared.evidence.Evidence as known
use Rattle.relying_search.specs.declared.link.Link as linked

abbrev pub seen_link : linked.Link → Link
seen_link link = record {
  number = link.number;
  issuer = seen_certificate link.issuer.now;
  certificate = seen_certificate link.certificate.now;
}

abbrev pub seen_lists : List (Option listed.CrlAnswer) → List (Option CrlAnswer)
seen_lists lists = map (λ crl. option_map seen_crl crl) lists

abbrev pub seen_evidence : known.Evidence → Evidence
seen_evidence it = record {
  number = it.number;
  may_sign_crls = it.may_sign_crls;
  answers = record {
    lists = seen_lists it.lists.items;
    limited = seen_lists it.limited.items;
    ocsp = option_map seen_ocsp it.ocsp;
  };
}
