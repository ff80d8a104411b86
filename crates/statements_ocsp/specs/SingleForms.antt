-- Single responses by their layout, in the words of the standard (RFC 6960, 4.1.1, 4.2.1).
use Rattle.std.specs.Prelude.{◌≡◌, ◌≢◌, ◌↔◌, ◌≤◌, ◌++◌, ℕ, ℤ, List, [], ◌∷◌, Option, Some, None, All, AllPairs, false, Ok}
use Rattle.std.specs.List.{AllZip}
use Rattle.asn.specs.Place.{Place, tag, body}
use Rattle.asn.specs.Members.{members}
use Rattle.asn.specs.Time.{IsTime}
use Rattle.cert.specs.AlgorithmIdentifier.{AlgorithmIdentifier, IsAlgorithmIdentifier}
use Rattle.cert.specs.CertificateForms.{IsSerialNumber}
use Rattle.cert.specs.Extension.{Extension, IsExtension}
use Rattle.statements_ocsp.specs.declared.cert_status.CertStatus.{CertStatus}
use Rattle.statements_ocsp.specs.declared.cert_status.CertStatus.TheVariants.{Good, Revoked, Unknown}
use Rattle.statements_ocsp.specs.CertificateId.{CertId}
use Rattle.statements_ocsp.specs.Single.{SingleResponse, single}

-- an EXPLICIT tag round one value (X.690, 8.14)
pub record IsTagged (identifier : ℕ) (value inside : Place) : Type 0 where
  pub explicit : tag value ≡ identifier
  pub members_are : (members value).values ≡ inside ∷ []

-- GeneralizedTime, the time of that many seconds from 1970-01-01T00:00:00Z (RFC 6960, 4.2.2.1)
pub record IsGeneralizedTimeAt (value : Place) (seconds : ℤ) : Type 0 where
  pub generalized : tag value ≡ 0x18
  pub is_time : IsTime (tag value) (body value) seconds

-- CertID ::= SEQUENCE { hashAlgorithm, issuerNameHash, issuerKeyHash, serialNumber } (4.1.1)
pub record IsCertId (value : Place) (fields : CertId) : Type 0 where
  pub algorithm : Place
  pub name_hash : Place
  pub key_hash : Place
  pub serial : Place
  pub hash : AlgorithmIdentifier
  pub sequence : tag value ≡ 0x30
  pub members_are : (members value).values ≡ algorithm ∷ name_hash ∷ key_hash ∷ serial ∷ []
  pub algorithm_is : IsAlgorithmIdentifier algorithm hash
  pub name_hash_string : tag name_hash ≡ 0x04
  pub key_hash_string : tag key_hash ≡ 0x04
  pub serial_is : IsSerialNumber serial fields.serial
  pub hash_algorithm : fields.hash_algorithm ≡ hash.oid
  pub issuer_name_hash : fields.issuer_name_hash ≡ body name_hash
  pub issuer_key_hash : fields.issuer_key_hash ≡ body key_hash

-- CRLReason (RFC 5280, 5.3.1): 0 to 10, of which 7 is not used, and 8 is for delta lists alone
pub record IsReason (value : Place) (code : ℕ) : Type 0 where
  pub enumerated : tag value ≡ 0x0A
  pub contents : body value ≡ code ∷ []
  pub most : code ≤ 10
  pub used : code ≢ 7
  pub stays : code ≢ 8

-- revocationReason [0] EXPLICIT CRLReason OPTIONAL; not there it is unspecified
abbrev pub IsOptionalReason : List Place → ℕ → Type 0
IsOptionalReason [] reason = reason ≡ 0
IsOptionalReason (value ∷ []) reason = (inside : Place) × IsTagged 0xA0 value inside × IsReason inside reason
IsOptionalReason (value ∷ other ∷ values) reason = ⊥

-- RevokedInfo ::= SEQUENCE { revocationTime, revocationReason }, under the tag of revoked [1] IMPLICIT
pub record IsRevokedInfo (value : Place) (reason : ℕ) : Type 0 where
  pub time : Place
  pub reasons : List Place
  pub seconds : ℤ
  pub revoked : tag value ≡ 0xA1
  pub members_are : (members value).values ≡ time ∷ reasons
  pub time_is : IsGeneralizedTimeAt time seconds
  pub reason_is : IsOptionalReason reasons reason

-- CertStatus ::= CHOICE { good [0] IMPLICIT NULL, revoked [1] IMPLICIT RevokedInfo, unknown [2] IMPLICIT UnknownInfo }
abbrev pub IsCertStatus : Place → CertStatus → Type 0
IsCertStatus value Good = (tag value ≡ 0x80) × (body value ≡ [])
IsCertStatus value (Revoked reason) = IsRevokedInfo value reason
IsCertStatus value Unknown = (tag value ≡ 0x82) × (body value ≡ [])

-- nextUpdate [0] EXPLICIT GeneralizedTime OPTIONAL
abbrev pub IsNextUpdate : List Place → Option ℤ → Type 0
IsNextUpdate [] None = Unit {0}
IsNextUpdate [] (Some seconds) = ⊥
IsNextUpdate (value ∷ []) None = ⊥
IsNextUpdate (value ∷ []) (Some seconds) = (inside : Place) × IsTagged 0xA0 value inside × IsGeneralizedTimeAt inside seconds
IsNextUpdate (value ∷ other ∷ values) moment = ⊥

-- Extensions ::= SEQUENCE SIZE (1..MAX) OF Extension (RFC 5280, 4.2): no two of one type, none critical
pub record AreUncritical (list : Place) : Type 0 where
  pub extensions : List Extension
  pub sequence : tag list ≡ 0x30
  pub some : extensions ≢ []
  pub each : AllZip IsExtension (members list).values extensions
  pub types : AllPairs (λ one other. one.oid ≢ other.oid) extensions
  pub uncritical : All (λ one. one.critical ≡ false) extensions

-- [1] EXPLICIT Extensions OPTIONAL
abbrev pub AreUncriticalExtensions : List Place → Type 0
AreUncriticalExtensions [] = Unit {0}
AreUncriticalExtensions (value ∷ []) = (list : Place) × IsTagged 0xA1 value list × AreUncritical list
AreUncriticalExtensions (value ∷ other ∷ values) = ⊥

-- SingleResponse ::= SEQUENCE { certID, certStatus, thisUpdate, nextUpdate, singleExtensions }
pub record IsSingleResponse (value : Place) (fields : SingleResponse) : Type 0 where
  pub id : Place
  pub status : Place
  pub this_update : Place
  pub next_updates : List Place
  pub extensions : List Place
  pub sequence : tag value ≡ 0x30
  pub members_are : (members value).values ≡ id ∷ status ∷ this_update ∷ next_updates ++ extensions
  pub id_is : IsCertId id fields.id
  pub status_is : IsCertStatus status fields.status
  pub this_update_is : IsGeneralizedTimeAt this_update fields.this_update
  pub next_update_is : IsNextUpdate next_updates fields.next_update
  pub extensions_are : AreUncriticalExtensions extensions

-- a place is read as a single response exactly where it is one
abbrev pub SingleResponseIsExact : Type 0
SingleResponseIsExact = (value : Place) (fields : SingleResponse) → (single value ≡ Ok fields) ↔ IsSingleResponse value fields
