-- What the code has at hand, as the definitions see it.
use Rattle.std.specs.Prelude.{◌≡◌, ◌++◌, List, [], map, Option, Some, None}
use Rattle.asn.specs.Place.{Place}
use Rattle.cert.specs.Certificate.{Certificate, seen_certificate}
pub use Rattle.path_verifiers.specs.Fingerprint.{judgement_print}
use Rattle.statements_crl.specs.CertificateList.{seen_list}
use Rattle.statements_crl.specs.declared.list.Crl as list
use Rattle.statements_ocsp.specs.Certificates.{certificate_in}
use Rattle.statements_ocsp.specs.OcspResponse.{OcspResponse, seen_response}
use Rattle.statements_ocsp.specs.declared.response.Response as response
use Rattle.statements.specs.Statement.{seen_statement}
use Rattle.statements.specs.declared.statement.Statement as code_statement
use Rattle.relying_search.specs.declared.link.Link as linked
use Rattle.relying_questions.specs.Places.{placed_certificate}
use Rattle.relying_questions.specs.Questions.{Judgement, of_certificate, asked_of_issuer, asked_of_list, asked_of_delegate, asked_of_response, asked_under}
use Rattle.relying_questions.specs.declared.question.SignatureQuestion as code
use Rattle.relying_questions.specs.declared.placed.Placed as placed

abbrev pub seen_question : code.SignatureQuestion → Judgement
seen_question asked = record {
  algorithm = asked.algorithm.octets.now;
  key_info = asked.key_info.octets.now;
  message = asked.message.octets.now;
  signature = asked.signature.octets.now;
}

-- what the questions are
abbrev pub seen_all : List code.SignatureQuestion → List Judgement
seen_all asked = map seen_question asked

-- these are behind those that were there
abbrev pub Adds : List code.SignatureQuestion → List code.SignatureQuestion → List Judgement → Type 0
Adds old new more = seen_all new ≡ seen_all old ++ more

-- ---- links

abbrev pub issuer_of_link : linked.Link → Certificate
issuer_of_link link = seen_certificate link.issuer.now

abbrev pub certificate_of : linked.Link → Certificate
certificate_of link = seen_certificate link.certificate.now

abbrev pub issuers_of_links : List linked.Link → List Certificate
issuers_of_links links = map issuer_of_link links

-- the questions of the certificates, in order
abbrev pub asked_of_link : linked.Link → Judgement
asked_of_link link = of_certificate (issuer_of_link link) (certificate_of link)

abbrev pub asked_of_links : List linked.Link → List Judgement
asked_of_links links = map asked_of_link links

-- ---- the questions of what was read

abbrev pub asked_of_list_seen : placed.Placed → list.Crl → List Judgement
asked_of_list_seen issuer list = asked_of_list (placed_certificate issuer) (seen_list list)

abbrev pub asked_of_issuer_seen : placed.Placed → response.Response → List Judgement
asked_of_issuer_seen issuer response = asked_of_issuer (placed_certificate issuer) (seen_response response)

abbrev pub asked_of_delegate_seen : placed.Placed → response.Response → placed.Placed → List Judgement
asked_of_delegate_seen issuer response delegate = asked_of_delegate (placed_certificate issuer) (seen_response response) (placed_certificate delegate)

-- of a value that comes with the response, if it is a certificate
abbrev pub asked_of_option : Certificate → OcspResponse → Option Certificate → List Judgement
asked_of_option issuer response None = []
asked_of_option issuer response (Some c) = asked_of_delegate issuer response c

abbrev pub asked_of_value : Certificate → OcspResponse → Place → List Judgement
asked_of_value issuer response value = asked_of_option issuer response (certificate_in value)

abbrev pub asked_of_value_seen : placed.Placed → response.Response → Place → List Judgement
asked_of_value_seen issuer response = asked_of_value (placed_certificate issuer) (seen_response response)

abbrev pub asked_of_response_seen : placed.Placed → response.Response → List Judgement
asked_of_response_seen issuer response = asked_of_response (placed_certificate issuer) (seen_response response)

abbrev pub asked_under_seen : placed.Placed → code_statement.Statement → List Judgement
asked_under_seen issuer statement = asked_under (seen_statement statement) (placed_certificate issuer)
