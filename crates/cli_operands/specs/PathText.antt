-- The certificates of a path in files, several in a row.
use Rattle.std.specs.Prelude.{◌≡◌, ◌≢◌, ◌⊎◌, ◌<◌, ◌≤◌, ◌+◌, ℕ, List, [], ◌∷◌, ◌++◌, length, map, Some, Ok, Err}
use Rattle.cert.specs.Certificate.{Certificate}
use Rattle.cert.specs.declared.fault.CertRule.{CertRule}
use Rattle.path.specs.InProfile.{certificate_in}
use Rattle.statements_facts.specs.declared.profile.Profile.{Profile}
use Rattle.der.specs.FirstFault.{FirstFaultIn}
use Rattle.der.specs.declared.fault.Fault.{Fault}
use Rattle.der.specs.declared.fault.Fault.TheVariants.{Refused as Breaks}
use Rattle.der.specs.declared.fault.Rule.{Rule}
use Rattle.der.specs.declared.fault.Rule.TheVariants.{Truncated}
use Rattle.der_stream.specs.Sequence.{StartsWithValues, joined}
use Rattle.cli_failures.specs.Failures.{Holding, IsUnread}
use Rattle.cli_failures.specs.declared.failure.Failure.{Failure}
use Rattle.cli_failures.specs.declared.failure.Failure.TheVariants.{Refused, NoCertificate, NoMemory}
use Rattle.cli_operands.specs.InOrder.{FailsFirst}

-- how many values of a file are read for a path: one more than a path may have, so that a path that is too long is told as such
abbrev pub most_of_path : ℕ
most_of_path = 129

-- for a search all: as many as 32 bits count, which have more than eight gigabytes
abbrev pub most_of_search : ℕ
most_of_search = 4294967295

-- the octets of the longest value: a header of 6, and contents of 2^28 - 1
abbrev pub longest : ℕ
longest = 268435461

-- the octets begin with these values, and then these are left
abbrev pub BeginsWithValues : List ℕ → List (List ℕ) → List ℕ → Type 0
BeginsWithValues = StartsWithValues longest

-- the texts are those of the certificates, in order, each read in the profile
abbrev pub AreTexts : Profile → List (List ℕ) → List Certificate → Type 0
AreTexts profile texts certificates = map (certificate_in profile) texts ≡ map Ok certificates

-- the octets are the certificates, each the value of one
pub record ArePathCertificates (profile : Profile) (most : ℕ) (octets : List ℕ) (certificates : List Certificate) : Type 0 where
  pub values : List (List ℕ)
  pub some : values ≢ []
  pub left : List ℕ
  pub begins : BeginsWithValues octets values left
  -- no more than the first of them are looked at
  pub few : length values ≤ most
  pub whole : (left ≡ []) ⊎ (length values ≡ most)
  pub each : AreTexts profile values certificates

-- the file holds them
abbrev pub HoldsCertificates : Profile → ℕ → Holding → List ℕ → List Certificate → Type 0
HoldsCertificates profile most holds file certificates =
    (octets : List ℕ) × holds.has file (Some octets) × ArePathCertificates profile most octets certificates

-- the files hold them, one file after the other
abbrev pub HoldPath : Profile → ℕ → Holding → List (List ℕ) → List Certificate → Type 0
HoldPath profile most holds [] certificates = certificates ≡ []
HoldPath profile most holds (file ∷ files) certificates =
    (first more : List Certificate) × HoldsCertificates profile most holds file first
    × HoldPath profile most holds files more × (certificates ≡ first ++ more)

-- ---- what is refused

-- the octets begin with certificates, fewer than are looked at, and then these are left
pub record BeginWithCertificates (profile : Profile) (most : ℕ) (octets : List ℕ) (before : List (List ℕ)) (left : List ℕ) : Type 0 where
  pub few : length before < most
  pub certificates : List Certificate
  pub each : AreTexts profile before certificates
  pub begins : BeginsWithValues octets before left

-- A value behind certificates is no certificate. The place is counted from the first octet of the file.
pub record HoldsOther (profile : Profile) (most : ℕ) (octets : List ℕ) (rule : CertRule) (at : ℕ) : Type 0 where
  pub before : List (List ℕ)
  pub text : List ℕ
  pub left : List ℕ
  pub begin : BeginWithCertificates profile most octets before (text ++ left)
  pub value : BeginsWithValues (text ++ left) (text ∷ []) left
  pub offset : ℕ
  pub refused : certificate_in profile text ≡ Err (rule, offset)
  pub at_is : at ≡ length (joined before) + offset

-- What is left behind certificates begins with no value, or nothing is there at all.
pub record HoldsNoValue (profile : Profile) (most : ℕ) (octets : List ℕ) (fault : Fault) : Type 0 where
  pub before : List (List ℕ)
  pub left : List ℕ
  pub begin : BeginWithCertificates profile most octets before left
  pub broken :
      ((rule : Rule) × (at : ℕ) × (0 < length left) × FirstFaultIn 1 left rule at
      × (fault ≡ Breaks rule (length (joined before) + at)))
      ⊎ ((octets ≡ []) × (fault ≡ Breaks Truncated 0))

-- a failure on a file of certificates: it names that file, and its fault is the first, value by value
abbrev pub IsFailureOnPath : Profile → ℕ → Holding → List ℕ → Failure → Type 0
IsFailureOnPath profile most holds file (Refused named fault) =
    (named.now ≡ file) × ((octets : List ℕ) × holds.has file (Some octets) × HoldsNoValue profile most octets fault)
IsFailureOnPath profile most holds file (NoCertificate named rule at) =
    (named.now ≡ file) × ((octets : List ℕ) × holds.has file (Some octets) × HoldsOther profile most octets rule at)
IsFailureOnPath profile most holds file failure = IsUnread holds file failure

-- a failure on the first of these files that is refused
abbrev pub IsFailureOfPath : Profile → ℕ → Holding → List (List ℕ) → Failure → Type 0
IsFailureOfPath profile most holds [] failure = failure ≡ NoMemory
IsFailureOfPath profile most holds (file ∷ files) failure =
    FailsFirst (IsFailureOnPath profile most holds file)
    ((certificates : List Certificate) × HoldsCertificates profile most holds file certificates)
    (IsFailureOfPath profile most holds files) failure
