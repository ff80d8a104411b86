-- What is found in files, and what a failure says of the file that it is about.
use Rattle.std.specs.Prelude.{◌≡◌, ◌⊎◌, ⊤, ℕ, List, Option, Some, None, Result, Ok, Err}
use Rattle.asn.specs.FirstFault.{IsFirstFault}
use Rattle.cert.specs.Certificate.{Certificate}
use Rattle.path.specs.InProfile.{certificate_in}
use Rattle.statements_facts.specs.Fact.{Fact}
use Rattle.statements_facts.specs.declared.profile.Profile.{Profile}
use Rattle.statements_facts.specs.declared.profile.Profile.TheVariants.{Stated}
use Rattle.statements_parts.specs.declared.fault.StatementFault.{StatementFault}
use Rattle.statements_crl.specs.CertificateList.{CertificateList, certificate_list_under}
use Rattle.statements_ocsp.specs.OcspResponse.{OcspResponse, ocsp_response}
use Rattle.cli_failures.specs.declared.failure.Failure.{Failure}
use Rattle.cli_failures.specs.declared.failure.Failure.TheVariants.{Refused, NoCertificate, NoRevocationList, NoResponse, NotGenuine, Unreadable, Unwritable, NoMemory}

-- What is found where files are read: a relation of their names and of what is there, the octets that the file holds, or none where it
-- cannot be read; and the profile in which statements, and the certificates of paths, are read there.
pub record Holding : Type 1 where
  pub has : List ℕ → Option (List ℕ) → Type 0
  pub profile : Profile

-- each file may hold anything
abbrev pub any_file : Profile → Holding
any_file profile = record { has = λ file found. ⊤; profile = profile }

-- each file can be read, and holds just these octets
abbrev pub IsJust : Profile → List ℕ → Holding
IsJust profile octets = record { has = λ file found. found ≡ Some octets; profile = profile }

-- The file was not read: it is named, and cannot be read; or memory ran out.
abbrev pub IsUnread : Holding → List ℕ → Failure → Type 0
IsUnread holds file (Unreadable named) = (named.now ≡ file) × holds.has file None
IsUnread holds file NoMemory = Unit {0}
IsUnread holds file _ = ⊥

-- the file holds the octets of this certificate, read in a profile
abbrev pub HoldsCertificateIn : Profile → Holding → List ℕ → Certificate → Type 0
HoldsCertificateIn profile holds file read =
    (octets : List ℕ) × holds.has file (Some octets) × (certificate_in profile octets ≡ Ok read)

-- the same in the stated profile
abbrev pub HoldsCertificate : Holding → List ℕ → Certificate → Type 0
HoldsCertificate = HoldsCertificateIn Stated

-- the file holds the octets of this revocation list, in the profile
abbrev pub HoldsList : Holding → List ℕ → CertificateList → Type 0
HoldsList holds file read =
    (octets : List ℕ) × holds.has file (Some octets) × (certificate_list_under holds.profile octets ≡ Ok read)

-- the file holds the octets of this response
abbrev pub HoldsResponse : Holding → List ℕ → OcspResponse → Type 0
HoldsResponse holds file read =
    (octets : List ℕ) × holds.has file (Some octets) × (ocsp_response octets ≡ Ok read)

-- A failure on a file that is to hold a DER value: it names that file, and its fault is the first of octets that the file holds.
abbrev pub IsNoValue : Holding → List ℕ → Failure → Type 0
IsNoValue holds file (Refused named fault) =
    (named.now ≡ file) × ((octets : List ℕ) × holds.has file (Some octets) × IsFirstFault octets fault)
IsNoValue holds file failure = IsUnread holds file failure

-- the same of a certificate, read in a profile
abbrev pub IsNoCertificateIn : Profile → Holding → List ℕ → Failure → Type 0
IsNoCertificateIn profile holds file (NoCertificate named rule at) =
    (named.now ≡ file)
    × ((octets : List ℕ) × holds.has file (Some octets) × (certificate_in profile octets ≡ Err (rule, at)))
IsNoCertificateIn profile holds file failure = IsUnread holds file failure

-- the same in the stated profile
abbrev pub IsNoCertificate : Holding → List ℕ → Failure → Type 0
IsNoCertificate = IsNoCertificateIn Stated

-- of a revocation list
abbrev pub IsNoList : Holding → List ℕ → Failure → Type 0
IsNoList holds file (NoRevocationList named rule at) =
    (named.now ≡ file)
    × ((octets : List ℕ) × holds.has file (Some octets) × (certificate_list_under holds.profile octets ≡ Err (rule, at)))
IsNoList holds file failure = IsUnread holds file failure

-- of a response
abbrev pub IsNoResponse : Holding → List ℕ → Failure → Type 0
IsNoResponse holds file (NoResponse named rule at) =
    (named.now ≡ file)
    × ((octets : List ℕ) × holds.has file (Some octets) × (ocsp_response octets ≡ Err (rule, at)))
IsNoResponse holds file failure = IsUnread holds file failure

-- what is said is that the statement is refused for this fault
abbrev pub IsDenied : Result (List Fact) StatementFault → List ℕ → Failure → Type 0
IsDenied said file (NotGenuine named fault) = (named.now ≡ file) × (said ≡ Err fault)
IsDenied said file failure = failure ≡ NoMemory

-- or what is asked for was found, and standard output failed
abbrev pub OrUnwritable : (Failure → Type 0) → Type 0 → Failure → Type 0
OrUnwritable IsFailure found failure = IsFailure failure ⊎ (found × (failure ≡ Unwritable))
