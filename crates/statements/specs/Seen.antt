-- Tests and facts of certificates, lists and responses as the code has them: each has the name of what it says of their fields, with
-- `_seen` behind it.
use Rattle.std.specs.Prelude.{◌≡◌, ◌≢◌, ℕ, ℤ, Bool, false, List, [], ◌∷◌, map, Option, option_map, Result, Ok}
use Rattle.std.specs.Global.{Vec}
use Rattle.cert.specs.Certificate.{seen_certificate}
use Rattle.cert.specs.declared.certificate.Certificate as certificate
use Rattle.statements_crl.specs.CertificateList.{seen_list}
use Rattle.statements_crl.specs.declared.list.Crl as list
use Rattle.statements_ocsp.specs.CertificateId.{seen_id}
use Rattle.statements_ocsp.specs.OcspResponse.{certs_left, seen_response}
use Rattle.statements_ocsp.specs.Responder.{seen_responder}
use Rattle.statements_ocsp.specs.Single.{seen_single_response}
use Rattle.statements_ocsp.specs.declared.cert_id.CertId as cert_id
use Rattle.statements_ocsp.specs.declared.responder.ResponderId as responder
use Rattle.statements_ocsp.specs.declared.response.Response as response
use Rattle.statements_ocsp.specs.declared.single.SingleResponse as single
use Rattle.statements_parts.specs.declared.fault.StatementFault.{StatementFault}
use Rattle.statements_facts.specs.Fact.{seen_issuer}
use Rattle.statements_facts.specs.Single.{SingleFact}
use Rattle.statements_facts.specs.Statement.{IssuerIdentity, Window}
use Rattle.statements_facts.specs.declared.issuer.Issuer as facts
use Rattle.statements.specs.CertificateIds.{IssuerHashes, named_with}
use Rattle.statements.specs.CrlFact.{issuers_of, of_issuer}
use Rattle.statements.specs.Genuine.{Accepts}
use Rattle.statements.specs.Issuer.{identity_of}
use Rattle.statements.specs.OcspFact.{single_fact, window_of}
use Rattle.statements.specs.Responder.{is_issued, is_named_by, is_responder, signs, signs_itself}
use Rattle.statements.specs.SignerView.{seen_signer}
use Rattle.statements.specs.declared.ids.IssuerHashes as hashes
use Rattle.statements.specs.declared.ids.IssuerIds as ids
use Rattle.statements.specs.declared.signer.Signer as signer

-- the issuer of facts is whom the certificate is of
abbrev pub IsSubjectOf : certificate.Certificate → facts.Issuer → Type 0
IsSubjectOf certificate issuer = seen_issuer issuer ≡ identity_of (seen_certificate certificate)

-- ---- lists

abbrev pub of_issuer_seen : Accepts → certificate.Certificate → list.Crl → Result (Unit {0}) StatementFault
of_issuer_seen accepts issuer list = of_issuer accepts (seen_certificate issuer) (seen_list list)

-- the list is one of the issuer, by its name and its signature
abbrev pub IsOfIssuer : Accepts → certificate.Certificate → list.Crl → Type 0
IsOfIssuer accepts issuer list = of_issuer_seen accepts issuer list ≡ Ok tt

abbrev pub issuers_of_seen : certificate.Certificate → list.Crl → List IssuerIdentity
issuers_of_seen issuer list = issuers_of (seen_certificate issuer) (seen_list list)

-- these are the first of them, and the others
abbrev pub AreIssuersOf : certificate.Certificate → list.Crl → facts.Issuer → Vec facts.Issuer → Type 0
AreIssuersOf issuer list first others = seen_issuer first ∷ map seen_issuer others.items ≡ issuers_of_seen issuer list

-- ---- responses

abbrev pub is_named_by_seen : responder.ResponderId → certificate.Certificate → Bool
is_named_by_seen responder certificate = is_named_by (seen_responder responder) (seen_certificate certificate)

abbrev pub signs_seen : Accepts → response.Response → certificate.Certificate → Bool
signs_seen accepts response certificate = signs accepts (seen_response response) (seen_certificate certificate)

abbrev pub signs_itself_seen : Accepts → certificate.Certificate → response.Response → Bool
signs_itself_seen accepts issuer response = signs_itself accepts (seen_certificate issuer) (seen_response response)

abbrev pub is_issued_seen : Accepts → certificate.Certificate → certificate.Certificate → Bool
is_issued_seen accepts issuer certificate = is_issued accepts (seen_certificate issuer) (seen_certificate certificate)

-- `is_responder`: the certificate is that of a delegate of the issuer, who signed the response
abbrev pub answers_for : Accepts → certificate.Certificate → response.Response → certificate.Certificate → Bool
answers_for accepts issuer response delegate =
    is_responder accepts (seen_certificate issuer) (seen_response response) (seen_certificate delegate)

-- the issuer did not sign the response itself
abbrev pub DoesNotSign : Accepts → certificate.Certificate → response.Response → Type 0
DoesNotSign accepts issuer response = signs_itself_seen accepts issuer response ≡ false

-- the issuer signed the response, or this brings values that may be certificates of delegates
abbrev pub MayBeSigned : Accepts → certificate.Certificate → response.Response → Type 0
MayBeSigned accepts issuer response =
    DoesNotSign accepts issuer response → certs_left response.certs ≢ []

abbrev pub window_of_seen : signer.Signer → single.SingleResponse → Window
window_of_seen signer single = window_of (seen_signer signer) (seen_single_response single)

abbrev pub single_fact_seen : signer.Signer → ℤ → single.SingleResponse → List ℕ → SingleFact
single_fact_seen signer produced_at single = single_fact (seen_signer signer) produced_at (seen_single_response single)

abbrev pub seen_hashes : hashes.IssuerHashes → IssuerHashes
seen_hashes hashes = record {
  key_by_sha256 = hashes.key_by_sha256;
  name_by_sha256 = hashes.name_by_sha256;
  name_by_sha1 = hashes.name_by_sha1;
}

abbrev pub named_with_seen : ids.IssuerIds → cert_id.CertId → Option (List ℕ)
named_with_seen ids id = named_with ids.key_hash (option_map seen_hashes ids.wide) (seen_id id)
