-- What a response says of the issuer's certificates (RFC 6960, 4.2.1 and 4.2.2).
use Rattle.std.specs.Prelude.{◌≡◌, ◌≢◌, ◌+ℤ◌, ℕ, ℤ, pos, Bool, List, [], Contains, filter, map, Option, Some, None, option_map, Result, Ok, Err}
use Rattle.std.specs.List.{filter_map, AllByRecursion}
use Rattle.std.specs.Int.{int_max, int_min}
use Rattle.cert.specs.Certificate.{Certificate}
use Rattle.statements_ocsp.specs.OcspResponse.{OcspResponse}
use Rattle.statements_ocsp.specs.ResponseForms.{IsOcspResponse}
use Rattle.statements_ocsp.specs.Single.{SingleResponse}
use Rattle.statements_ocsp.specs.declared.cert_status.CertStatus.{CertStatus}
use Rattle.statements_ocsp.specs.declared.cert_status.CertStatus.TheVariants as said
use Rattle.statements_facts.specs.declared.profile.Profile.{Profile}
use Rattle.statements_facts.specs.declared.profile.Profile.TheVariants.{Stated, Wide}
use Rattle.statements_facts.specs.declared.single.Status.{Status}
use Rattle.statements_facts.specs.declared.single.Status.TheVariants.{Good, Revoked, Unknown}
use Rattle.statements_facts.specs.Single.{SingleFact, some_singles}
use Rattle.statements_facts.specs.Statement.{IssuerIdentity, Window}
use Rattle.statements_facts.specs.Fact.{Fact, ocsp_slot}
use Rattle.statements_parts.specs.declared.fault.StatementFault.{StatementFault}
use Rattle.statements_parts.specs.declared.fault.StatementFault.TheVariants.{NoSigner, NothingForIssuer}
use Rattle.statements.specs.CertificateIds.{is_by_sha1, named_in}
use Rattle.statements.specs.Genuine.{Accepts, ◌then◌}
use Rattle.statements.specs.Responder.{Signer, the_issuer, delegate, key_hash, signer_of, IsSigner}

-- a day, in seconds
abbrev pub day : ℤ
day = pos 86400

-- A single response without nextUpdate counts for a day from thisUpdate on, which is a choice of the profile.
abbrev pub counts_until : SingleResponse → ℤ
counts_until single = end_in single.this_update single.next_update where
  end_in : ℤ → Option ℤ → ℤ
  end_in this_update None = this_update +ℤ day
  end_in this_update (Some next_update) = next_update

-- It counts while both the statement and the delegate's certificate do.
abbrev pub window_of : Signer → SingleResponse → Window
window_of the_issuer single = record { from = single.this_update; until = counts_until single }
window_of (delegate c) single = record { from = int_max single.this_update c.validity.not_before; until = int_min (counts_until single) c.validity.not_after }

abbrev pub status_of : CertStatus → Status
status_of said.Good = Good
status_of (said.Revoked reason) = Revoked reason
status_of said.Unknown = Unknown

abbrev pub single_fact : Signer → ℤ → SingleResponse → List ℕ → SingleFact
single_fact signer produced_at single name_hash = record {
  name_hash = name_hash;
  serial = single.id.serial;
  fact = record {
    times = record { this_update = single.this_update; produced_at = produced_at };
    window = window_of signer single;
    status = status_of single.status;
  };
}

-- what a single response says, if it speaks of a certificate of the issuer
abbrev pub single_said : Profile → Certificate → Signer → ℤ → SingleResponse → Option SingleFact
single_said profile issuer signer produced_at single =
    option_map (single_fact signer produced_at single) (named_in profile issuer single.id)

-- what the response says, in the order of its single responses; those that do not speak of the issuer's certificates are passed over
abbrev pub singles_of : Profile → Certificate → OcspResponse → Signer → List SingleFact
singles_of profile issuer response signer = filter_map (single_said profile issuer signer response.produced_at) response.responses

abbrev pub signer_or_fault : Option Signer → Result Signer StatementFault
signer_or_fault (Some signer) = Ok signer
signer_or_fault None = Err NoSigner

abbrev pub or_nothing : Option (List SingleFact) → Result (List SingleFact) StatementFault
or_nothing None = Err NothingForIssuer
or_nothing (Some singles) = Ok singles

-- what a response says in a profile that was read, or why it is none of the issuer or says nothing
abbrev pub response_said : Profile → Accepts → Certificate → OcspResponse → Result (List SingleFact) StatementFault
response_said profile accepts issuer response =
    signer_or_fault (signer_of accepts issuer response) then λ signer.
    or_nothing (some_singles (singles_of profile issuer response signer))

-- The octets are a response that somebody signed who may answer for the issuer, and these are what it says in a profile. No moment is
-- looked at.
pub record IsGenuineResponseUnder (profile : Profile) (accepts : Accepts) (issuer : Certificate) (octets : List ℕ) (singles : List SingleFact) : Type 0 where
  pub response : OcspResponse
  pub is_response : IsOcspResponse octets response
  pub signer : Signer
  pub is_signer : IsSigner accepts issuer response signer
  pub singles_are : singles ≡ singles_of profile issuer response signer
  pub some : singles ≢ []

abbrev pub IsGenuineResponse : Accepts → Certificate → List ℕ → List SingleFact → Type 0
IsGenuineResponse = IsGenuineResponseUnder Stated

-- a single response as a fact about its certificate
abbrev pub fact_with : IssuerIdentity → SingleFact → Fact
fact_with issuer single = Fact.OfResponse (ocsp_slot issuer single) single.fact

-- ---- laws

-- In the stated profile a response speaks of the certificates whose ids are by SHA-1.
abbrev pub speaks_for : Certificate → SingleResponse → Bool
speaks_for issuer single = is_by_sha1 (key_hash issuer) single.id

abbrev pub stated_fact : Signer → ℤ → SingleResponse → SingleFact
stated_fact signer produced_at single = single_fact signer produced_at single single.id.issuer_name_hash

abbrev pub StatedIdsAreBySha1 : Type 0
StatedIdsAreBySha1 =
    (issuer : Certificate) (response : OcspResponse) (signer : Signer) →
    singles_of Stated issuer response signer
    ≡ map (stated_fact signer response.produced_at) (filter (speaks_for issuer) response.responses)

-- What a response says in the stated profile it says in the wide one, which may let it say more.
abbrev pub WideResponsesSayMore : Type 0
WideResponsesSayMore =
    (accepts : Accepts) (issuer : Certificate) (response : OcspResponse) (singles : List SingleFact) →
    response_said Stated accepts issuer response ≡ Ok singles →
    (all : List SingleFact) × (response_said Wide accepts issuer response ≡ Ok all) × AllByRecursion (Contains all) singles
