-- Responses of the Online Certificate Status Protocol (RFC 6960, 4.2.1).
use Rattle.std.specs.Prelude.{ℕ, ℤ, ◌==◌, List, [], ◌∷◌, Option, Some, None, Result, Ok}
use Rattle.std.specs.Str.{bytes_eq}
use Rattle.asn.specs.Place.{Place, body, seen_tlv}
use Rattle.asn.specs.Members.{Members, members, left}
use Rattle.asn.specs.declared.tlv.Cursor.{Cursor}
use Rattle.asn.specs.Walk.{◌>>=◌, is_a, required, optional, next_or, or_fault, ended, check_that}
use Rattle.asn.specs.Outermost.{outermost, nested}
use Rattle.cert.specs.AlgorithmIdentifier.{AlgorithmIdentifier, algorithm_identifier, seen_algorithm}
use Rattle.cert.specs.BitString.{BitString, seen_bit_string}
use Rattle.statements_parts.specs.Fault.{as_statement_der}
use Rattle.statements_parts.specs.Parts.{statement_component, next_in_statement, signature_in_statement}
use Rattle.statements_parts.specs.declared.fault.StatementRule.{StatementRule}
use Rattle.statements_parts.specs.declared.fault.StatementRule.TheVariants.{Layout, NotSuccessful, ResponseType}
use Rattle.statements_ocsp.specs.declared.response.Response as code
use Rattle.statements_ocsp.specs.declared.response.ResponseData as signed_part
use Rattle.statements_ocsp.specs.declared.response.Signed as behind
use Rattle.statements_ocsp.specs.declared.certs.Certs as walk
use Rattle.statements_ocsp.specs.GeneralizedTime.{generalized_time}
use Rattle.statements_ocsp.specs.ResponseExtensions.{optional_response_extensions}
use Rattle.statements_ocsp.specs.Responder.{Responder, responder, seen_responder}
use Rattle.statements_ocsp.specs.Single.{SingleResponse, singles, singles_left}

-- ResponseData ::= SEQUENCE { version [0] EXPLICIT Version DEFAULT v1, responderID ResponderID, producedAt GeneralizedTime, responses
-- SEQUENCE OF SingleResponse, responseExtensions [1] EXPLICIT Extensions OPTIONAL }. There is no version but v1, which DER leaves out
-- (X.690, 11.5). The time is in seconds from 1970-01-01T00:00:00Z.
pub record ResponseData : Type 0 where
  pub responder : Responder
  pub produced_at : ℤ
  pub responses : List SingleResponse

abbrev pub seen_data : signed_part.ResponseData → ResponseData
seen_data read = record { responder = seen_responder read.responder; produced_at = read.produced_at; responses = singles_left read.responses }

-- responses SEQUENCE OF SingleResponse
abbrev pub all_singles : Place → Result (List SingleResponse) (StatementRule × ℕ)
all_singles list = singles 0 (members list).values

-- responses: the next value as such a list
abbrev pub next_singles : Members → Result (List SingleResponse × Members) (StatementRule × ℕ)
next_singles = statement_component 0x30 all_singles

-- The checks in their order.
unfoldable pub response_data : Place → Result ResponseData (StatementRule × ℕ)
response_data value = do
  sequence ← is_a 0x30 Layout value
  responder ← responder (members value)
  produced_at ← generalized_time responder.1
  responses ← next_singles produced_at.1
  left ← optional_response_extensions responses.1
  done ← ended Layout left
  Ok (record { responder = responder.0; produced_at = produced_at.0; responses = responses.0 })

-- certs [0] EXPLICIT SEQUENCE OF Certificate OPTIONAL: the values, whatever they are
abbrev pub certs_of : Option Place → Members → Result (List Place × Members) (StatementRule × ℕ)
certs_of None left = Ok ([], left)
certs_of (Some explicit) left = do
  list ← required 0x30 Layout (members explicit)
  one ← ended Layout list.1
  Ok ((members list.0).values, left)

unfoldable pub certs : Members → Result (List Place × Members) (StatementRule × ℕ)
certs left = certs_of (optional 0xA0 left).0 (optional 0xA0 left).1

-- the values that are still to be handed out
abbrev pub certs_in : Option Cursor → List Place
certs_in None = []
certs_in (Some cursor) = (left cursor).values

abbrev pub certs_left : walk.Certs → List Place
certs_left walk = certs_in walk.members

-- The fields of a response.
pub record OcspResponse : Type 0 where
  pub tbs : Place
  pub algorithm : AlgorithmIdentifier
  pub signature : BitString
  pub responder : Responder
  pub produced_at : ℤ
  pub responses : List SingleResponse
  pub certs : List Place

abbrev pub seen_response : code.Response → OcspResponse
seen_response read = record {
  tbs = seen_tlv read.tbs;
  algorithm = seen_algorithm read.algorithm;
  signature = seen_bit_string read.signature;
  responder = seen_responder read.responder;
  produced_at = read.produced_at;
  responses = singles_left read.responses;
  certs = certs_left read.certs;
}

-- BasicOCSPResponse ::= SEQUENCE { tbsResponseData ResponseData, signatureAlgorithm AlgorithmIdentifier, signature BIT STRING, certs [0]
-- EXPLICIT SEQUENCE OF Certificate OPTIONAL }: what stands behind the signed part,
pub record Signed : Type 0 where
  pub algorithm : AlgorithmIdentifier
  pub signature : BitString
  pub certs : List Place

abbrev pub seen_signed : behind.Signed → Signed
seen_signed read = record { algorithm = seen_algorithm read.algorithm; signature = seen_bit_string read.signature; certs = certs_left read.certs }

unfoldable pub signature_part : Members → Result Signed (StatementRule × ℕ)
signature_part left = do
  algorithm ← next_in_statement (algorithm_identifier Layout) left
  signature ← statement_component 0x03 signature_in_statement algorithm.1
  certs ← certs signature.1
  done ← ended Layout certs.1
  Ok (record { algorithm = algorithm.0; signature = signature.0; certs = certs.0 })

-- and the whole.
abbrev pub response_with : Place → ResponseData → Signed → OcspResponse
response_with signed tbs behind = record {
  tbs = signed;
  algorithm = behind.algorithm;
  signature = behind.signature;
  responder = tbs.responder;
  produced_at = tbs.produced_at;
  responses = tbs.responses;
  certs = behind.certs;
}

unfoldable pub basic_response : Place → Result OcspResponse (StatementRule × ℕ)
basic_response value = do
  sequence ← is_a 0x30 Layout value
  signed ← next_or Layout (members value)
  tbs ← response_data signed.0
  behind ← signature_part signed.1
  Ok (response_with signed.0 tbs behind)

-- the response that an OCTET STRING holds
unfoldable pub contained_response : Place → Result OcspResponse (StatementRule × ℕ)
contained_response value = as_statement_der (nested value) >>= λ inside. basic_response inside

-- response: the next value as an OCTET STRING that holds one
abbrev pub next_contained : Members → Result (OcspResponse × Members) (StatementRule × ℕ)
next_contained = statement_component 0x04 contained_response

-- id-pkix-ocsp-basic (4.2.1): 1.3.6.1.5.5.7.48.1.1
abbrev pub id_basic : List ℕ
id_basic = 0x2B ∷ 0x06 ∷ 0x01 ∷ 0x05 ∷ 0x05 ∷ 0x07 ∷ 0x30 ∷ 0x01 ∷ 0x01 ∷ []

unfoldable pub basic_type : Members → Result Members (StatementRule × ℕ)
basic_type left = do
  kind ← required 0x06 Layout left
  basic ← check_that (bytes_eq (body kind.0) id_basic) ResponseType kind.0.at
  Ok kind.1

-- ResponseBytes ::= SEQUENCE { responseType OBJECT IDENTIFIER, response OCTET STRING }
unfoldable pub response_bytes : Place → Result OcspResponse (StatementRule × ℕ)
response_bytes value = do
  sequence ← is_a 0x30 Layout value
  left ← basic_type (members value)
  response ← next_contained left
  done ← ended Layout response.1
  Ok response.0

-- responseBytes [0] EXPLICIT ResponseBytes, which a successful response has
unfoldable pub explicit_bytes : Place → Result OcspResponse (StatementRule × ℕ)
explicit_bytes value = do
  explicit ← is_a 0xA0 Layout value
  response ← next_in_statement response_bytes (members value)
  one ← ended Layout response.1
  Ok response.0

-- OCSPResponseStatus ::= ENUMERATED, of one octet: 0 is successful
abbrev pub one_octet : List ℕ → Option ℕ
one_octet [] = None
one_octet (code ∷ []) = Some code
one_octet (code ∷ other ∷ octets) = None

unfoldable pub successful : Place → Result (Unit {0}) (StatementRule × ℕ)
successful value = do
  code ← or_fault (one_octet (body value)) Layout value.at
  check_that (code == 0) (NotSuccessful code) value.at

-- OCSPResponse ::= SEQUENCE { responseStatus OCSPResponseStatus, responseBytes [0] EXPLICIT ResponseBytes OPTIONAL }
unfoldable pub ocsp_response_at : Place → Result OcspResponse (StatementRule × ℕ)
ocsp_response_at value = do
  sequence ← is_a 0x30 Layout value
  status ← statement_component 0x0A successful (members value)
  response ← next_in_statement explicit_bytes status.1
  done ← ended Layout response.1
  Ok response.0

unfoldable pub ocsp_response : List ℕ → Result OcspResponse (StatementRule × ℕ)
ocsp_response octets = as_statement_der (outermost octets) >>= λ value. ocsp_response_at value
