-- Responses by their layout, in the words of the standard (RFC 6960, 4.2.1).
use Rattle.std.specs.Prelude.{◌≡◌, ◌↔◌, ◌≤◌, ℕ, List, [], ◌∷◌, length, Ok}
use Rattle.std.specs.List.{AllZip}
use Rattle.asn.specs.Value.{Value}
use Rattle.asn.specs.Encoding.{Encodes}
use Rattle.asn.specs.DerLaws.{AreOctets}
use Rattle.asn.specs.Place.{Place, tag, body, body_place}
use Rattle.asn.specs.Members.{members}
use Rattle.cert.specs.AlgorithmIdentifier.{IsAlgorithmIdentifier}
use Rattle.cert.specs.CertificateForms.{IsNameOf, IsSignature}
use Rattle.statements_ocsp.specs.Responder.{Responder, by_name, by_key}
use Rattle.statements_ocsp.specs.SingleForms.{IsTagged, IsGeneralizedTimeAt, IsSingleResponse, AreUncriticalExtensions}
use Rattle.statements_ocsp.specs.OcspResponse.{OcspResponse, ResponseData, Signed, ocsp_response, response_with}

-- ResponderID ::= CHOICE { byName [1] EXPLICIT Name, byKey [2] EXPLICIT KeyHash }, KeyHash ::= OCTET STRING
abbrev pub IsResponderId : Place → Responder → Type 0
IsResponderId value (by_name name) = (inner : Place) × IsTagged 0xA1 value inner × IsNameOf inner name
IsResponderId value (by_key hash) = (inner : Place) × IsTagged 0xA2 value inner × (tag inner ≡ 0x04) × (hash ≡ body inner)

-- ResponseData ::= SEQUENCE { version, responderID, producedAt, responses, responseExtensions }, of version 1, which DER leaves out;
-- at most 256 single responses are served
pub record IsResponseData (value : Place) (fields : ResponseData) : Type 0 where
  pub responder : Place
  pub produced_at : Place
  pub responses : Place
  pub extensions : List Place
  pub sequence : tag value ≡ 0x30
  pub members_are : (members value).values ≡ responder ∷ produced_at ∷ responses ∷ extensions
  pub responder_is : IsResponderId responder fields.responder
  pub produced_at_is : IsGeneralizedTimeAt produced_at fields.produced_at
  pub responses_sequence : tag responses ≡ 0x30
  pub responses_are : AllZip IsSingleResponse (members responses).values fields.responses
  pub few : length fields.responses ≤ 256
  pub extensions_are : AreUncriticalExtensions extensions

-- certs [0] EXPLICIT SEQUENCE OF Certificate OPTIONAL: the values, whatever they are
abbrev pub AreCerts : List Place → List Place → Type 0
AreCerts [] certs = certs ≡ []
AreCerts (value ∷ []) certs =
    (list : Place) × IsTagged 0xA0 value list × (tag list ≡ 0x30) × (certs ≡ (members list).values)
AreCerts (value ∷ other ∷ values) certs = ⊥

-- BasicOCSPResponse ::= SEQUENCE { tbsResponseData, signatureAlgorithm, signature, certs }
pub record IsBasicResponse (value : Place) (fields : OcspResponse) : Type 0 where
  pub signed : Place
  pub algorithm : Place
  pub certs : List Place
  pub tbs : ResponseData
  pub behind : Signed
  pub sequence : tag value ≡ 0x30
  pub members_are : (members value).values ≡ signed ∷ algorithm ∷ behind.signature.value ∷ certs
  pub signed_is : IsResponseData signed tbs
  pub algorithm_is : IsAlgorithmIdentifier algorithm behind.algorithm
  pub signature_is : IsSignature behind.signature.value behind.signature.octets
  pub certs_are : AreCerts certs behind.certs
  pub fields_are : fields ≡ response_with signed tbs behind

-- ResponseBytes ::= SEQUENCE { responseType OBJECT IDENTIFIER, response OCTET STRING }; id-pkix-ocsp-basic is 1.3.6.1.5.5.7.48.1.1, and
-- its OCTET STRING holds DER of its own, where nesting is counted anew
pub record AreResponseBytes (value : Place) (fields : OcspResponse) : Type 0 where
  pub kind : Place
  pub response : Place
  pub basic : Value
  pub sequence : tag value ≡ 0x30
  pub members_are : (members value).values ≡ kind ∷ response ∷ []
  pub identifier : tag kind ≡ 0x06
  pub kind_is : body kind ≡ 43 ∷ 6 ∷ 1 ∷ 5 ∷ 5 ∷ 7 ∷ 48 ∷ 1 ∷ 1 ∷ []
  pub octet_string : tag response ≡ 0x04
  pub der : Encodes (body response) basic
  pub basic_is : IsBasicResponse (body_place response) fields

-- OCSPResponse ::= SEQUENCE { responseStatus ENUMERATED, responseBytes [0] EXPLICIT ResponseBytes OPTIONAL }, of status
-- successful(0), which has responseBytes
pub record IsOcspResponseAt (value : Place) (fields : OcspResponse) : Type 0 where
  pub status : Place
  pub explicit : Place
  pub bytes : Place
  pub sequence : tag value ≡ 0x30
  pub members_are : (members value).values ≡ status ∷ explicit ∷ []
  pub enumerated : tag status ≡ 0x0A
  pub successful : body status ≡ 0 ∷ []
  pub tagged : IsTagged 0xA0 explicit bytes
  pub bytes_are : AreResponseBytes bytes fields

-- The octets are DER (X.690), and have the layout of a response with these fields.
pub record IsOcspResponse (octets : List ℕ) (fields : OcspResponse) : Type 0 where
  pub value : Value
  pub der : Encodes octets value
  pub layout : IsOcspResponseAt (record { octets = octets; at = 0 }) fields

-- what is read is exactly that; and its fields are the only ones
abbrev pub OcspResponseIsExact : Type 0
OcspResponseIsExact =
    (octets : List ℕ) (fields : OcspResponse) → AreOctets octets → (ocsp_response octets ≡ Ok fields) ↔ IsOcspResponse octets fields

abbrev pub OcspResponseIsUnique : Type 0
OcspResponseIsUnique =
    (octets : List ℕ) (one other : OcspResponse) → AreOctets octets →
    IsOcspResponse octets one → IsOcspResponse octets other → one ≡ other
