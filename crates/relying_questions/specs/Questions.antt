-- What a verifier may be asked for the verdict on a path by statements (RFC 5280, 6.1.3 (a) (1) and 6.3.3; RFC 6960, 4.2.2.2).
use Rattle.std.specs.Prelude.{◌&&◌, Bool, List, [], ◌∷◌, ◌++◌, map, if◌then◌else◌}
use Rattle.std.specs.List.{flat_map}
use Rattle.names.specs.DistinguishedName.{matching}
use Rattle.cert.specs.Certificate.{Certificate}
pub use Rattle.path_verifiers.specs.Fingerprint.{Judgement}
use Rattle.path.specs.Query.{Query, Accepts}
use Rattle.statements_crl.specs.CertificateList.{CertificateList}
use Rattle.statements_ocsp.specs.OcspResponse.{OcspResponse}
use Rattle.statements_ocsp.specs.Certificates.{certificates_in}
use Rattle.statements.specs.Responder.{is_named_by, may_respond}
use Rattle.statements.specs.Statement.{Statement}
use Rattle.relying_agreement.specs.Link.{Link, links_of}
use Rattle.relying_texts.specs.Texts.{issuers_of}

-- how a verifier answers it
abbrev pub answer : Accepts → Judgement → Bool
answer accepts asked = accepts asked.algorithm asked.key_info asked.message asked.signature

-- the question if the test is passed, and else none
abbrev pub asked_if : Bool → List Judgement → List Judgement
asked_if test asked = if test then asked else []

-- ---- signatures under the key of a certificate

-- that of a certificate
abbrev pub of_certificate : Certificate → Certificate → Judgement
of_certificate issuer c = record {
  algorithm = c.algorithm.value.octets;
  key_info = issuer.key_info.value.octets;
  message = c.tbs.octets;
  signature = c.signature.octets;
}

-- that of a list
abbrev pub of_revocations : Certificate → CertificateList → Judgement
of_revocations issuer list = record {
  algorithm = list.algorithm.value.octets;
  key_info = issuer.key_info.value.octets;
  message = list.tbs.octets;
  signature = list.signature.octets;
}

-- that of a response
abbrev pub of_answers : Certificate → OcspResponse → Judgement
of_answers signer response = record {
  algorithm = response.algorithm.value.octets;
  key_info = signer.key_info.value.octets;
  message = response.tbs.octets;
  signature = response.signature.octets;
}

-- ---- what is asked

-- of a path: each certificate under the one before it, the first under the anchor
abbrev pub asked_of_path : Query → List Judgement
asked_of_path query = map (λ (link : Link). of_certificate link.issuer link.certificate) (links_of query)

-- of a list under an issuer that it names
abbrev pub asked_of_list : Certificate → CertificateList → List Judgement
asked_of_list issuer list = asked_if (matching list.issuer.rdns issuer.subject.rdns) (of_revocations issuer list ∷ [])

-- of a response under an issuer that the responder id names
abbrev pub asked_of_issuer : Certificate → OcspResponse → List Judgement
asked_of_issuer issuer response = asked_if (is_named_by response.responder issuer) (of_answers issuer response ∷ [])

-- of a certificate that comes with the response: who issued it, if the responder id names it and the issuer's name is its issuer's; and
-- whether it signed the response, if its extensions let it
abbrev pub asked_of_delegate : Certificate → OcspResponse → Certificate → List Judgement
asked_of_delegate issuer response c =
    asked_if (is_named_by response.responder c && matching c.issuer.rdns issuer.subject.rdns)
    (of_certificate issuer c ∷ asked_if (may_respond c) (of_answers c response ∷ []))

abbrev pub asked_of_response : Certificate → OcspResponse → List Judgement
asked_of_response issuer response =
    asked_of_issuer issuer response ++ flat_map (asked_of_delegate issuer response) (certificates_in response)

-- of a statement under an issuer
abbrev pub asked_under : Statement → Certificate → List Judgement
asked_under (Statement.OfList list) issuer = asked_of_list issuer list
asked_under (Statement.OfResponse profile response) issuer = asked_of_response issuer response

-- under each of the issuers
abbrev pub asked_of_statement : List Certificate → Statement → List Judgement
asked_of_statement issuers read = flat_map (asked_under read) issuers

abbrev pub asked_of_statements : List Certificate → List Statement → List Judgement
asked_of_statements issuers statements = flat_map (asked_of_statement issuers) statements

-- of the path, and then of each statement
abbrev pub questions_of : Query → List Statement → List Judgement
questions_of query statements = asked_of_path query ++ asked_of_statements (issuers_of query) statements
