-- Entries by their layout, in the words of the standard (RFC 5280, 5.1.2.6 and 5.3).
use Rattle.std.specs.Prelude.{◌≡◌, ◌≢◌, ◌↔◌, ◌⊎◌, ◌≤◌, ℕ, List, [], ◌∷◌, All, AllPairs, true, Ok}
use Rattle.std.specs.List.{AllZip}
use Rattle.asn.specs.Value.{primitive}
use Rattle.asn.specs.Encoding.{Encodes}
use Rattle.asn.specs.Place.{Place, tag, body}
use Rattle.asn.specs.Members.{members}
use Rattle.asn.specs.Time.{IsTime}
use Rattle.cert.specs.CertificateForms.{IsSerialNumber}
use Rattle.cert.specs.Extension.{Extension, IsExtension}
pub use Rattle.cert.specs.ExtensionFields.{id_ce}
use Rattle.statements_crl.specs.Entry.{Entry, entry}

-- The value of a reasonCode (5.3.1): CRLReason ::= ENUMERATED, from 0 to 10, of which 7 is not used, and 8, removeFromCRL, is for
-- delta lists alone
pub record IsReasonCode (one : Extension) (code : ℕ) : Type 0 where
  pub enumerated : Encodes (body one.value) (primitive 0x0A (code ∷ []))
  pub most : code ≤ 10
  pub used : code ≢ 7
  pub stays : code ≢ 8

-- Extensions ::= SEQUENCE SIZE (1..MAX) OF Extension (4.2), no two of one type: of an entry (5.3), which gives this reason
pub record GivesReason (list : Place) (reason : ℕ) : Type 0 where
  pub extensions : List Extension
  pub sequence : tag list ≡ 0x30
  pub some : extensions ≢ []
  pub each : AllZip IsExtension (members list).values extensions
  pub types : AllPairs (λ one other. one.oid ≢ other.oid) extensions
  -- reasonCode is id-ce 21 (5.3.1); where there is none, the reason is unspecified, which is 0
  pub given : All (λ one. one.oid ≡ id_ce 21 → IsReasonCode one reason) extensions
  pub unspecified : All (λ one. one.oid ≢ id_ce 21) extensions → reason ≡ 0
  -- certificateIssuer is id-ce 29 (5.3.3): the certificate of another issuer, which is not served
  pub own : All (λ one. one.oid ≢ id_ce 29) extensions
  -- a critical one is known; invalidityDate is id-ce 24 (5.3.2)
  pub known : All (λ one. one.critical ≡ true → (one.oid ≡ id_ce 21) ⊎ (one.oid ≡ id_ce 24)) extensions

-- crlEntryExtensions Extensions OPTIONAL
abbrev pub GivesOptionalReason : List Place → ℕ → Type 0
GivesOptionalReason [] reason = reason ≡ 0
GivesOptionalReason (list ∷ []) reason = GivesReason list reason
GivesOptionalReason (list ∷ other ∷ values) reason = ⊥

-- SEQUENCE { userCertificate CertificateSerialNumber, revocationDate Time, crlEntryExtensions Extensions OPTIONAL }
pub record IsEntry (value : Place) (fields : Entry) : Type 0 where
  pub user_certificate : Place
  pub date : Place
  pub extensions : List Place
  pub sequence : tag value ≡ 0x30
  pub members_are : (members value).values ≡ user_certificate ∷ date ∷ extensions
  pub serial_is : IsSerialNumber user_certificate fields.serial
  pub date_is : IsTime (tag date) (body date) fields.revocation_date
  pub reason_is : GivesOptionalReason extensions fields.reason

-- a place is read as an entry exactly where it is one
abbrev pub EntryIsExact : Type 0
EntryIsExact = (value : Place) (fields : Entry) → (entry value ≡ Ok fields) ↔ IsEntry value fields
