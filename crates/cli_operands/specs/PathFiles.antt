-- Files of certificates that were read: their values, and the certificates that these are.
use Rattle.std.specs.Prelude.{◌≡◌, ◌≢◌, ◌⊎◌, ℕ, List, [], ◌∷◌, ◌++◌, map, Option, Some, None}
use Rattle.cert.specs.Certificate.{Certificate}
use Rattle.der.specs.declared.fault.Fault.TheVariants.{Refused as Breaks}
use Rattle.der.specs.declared.fault.Rule.TheVariants.{Truncated}
use Rattle.der_stream.specs.declared.reading.ReadFault.{ReadFault}
use Rattle.statements_facts.specs.declared.profile.Profile.{Profile}
use Rattle.cli_failures.specs.Failures.{Holding, IsUnread}
use Rattle.cli_failures.specs.declared.failure.Failure.{Failure}
use Rattle.cli_failures.specs.declared.failure.Failure.TheVariants.{NoMemory, Refused}
use Rattle.cli_operands.specs.InOrder.{FailsFirst}
use Rattle.cli_operands.specs.PathText.{AreTexts}
use Rattle.cli_operands.specs.CertificateValues.{AreCertificateValues, IsFailureAmong, IsToldOf, ReadUpTo}
use Rattle.cli_operands.specs.declared.path_file.PathFile.{PathFile}

-- ---- files

-- the values that were read of a file
abbrev pub values_read : PathFile → List (List ℕ)
values_read it = map (λ value. value.items) it.values.items

-- the file holds octets, and these are the values with which they begin; their certificates are read in the profile
abbrev pub IsFileRead : Profile → ℕ → Holding → List ℕ → PathFile → Type 0
IsFileRead profile most holds file it =
    (it.file.now ≡ file)
    × (it.profile ≡ profile)
    × ((octets : List ℕ) × holds.has file (Some octets) × ReadUpTo most octets (values_read it) it.stopped)

-- the files were read, or those before the first that was not, for this failure
abbrev pub AreFilesRead : Profile → ℕ → Holding → List (List ℕ) → List PathFile → Option Failure → Type 0
AreFilesRead profile most holds [] [] None = Unit {0}
AreFilesRead profile most holds [] [] (Some failure) = ⊥
AreFilesRead profile most holds [] (it ∷ more) unread = ⊥
AreFilesRead profile most holds (file ∷ files) [] None = ⊥
AreFilesRead profile most holds (file ∷ files) [] (Some failure) = IsUnread holds file failure
AreFilesRead profile most holds (file ∷ files) (it ∷ more) unread =
    IsFileRead profile most holds file it × AreFilesRead profile most holds files more unread

-- ---- their certificates

-- the values of the file are those of the certificates, and it ends behind them
pub record AreCertificatesIn (it : PathFile) (certificates : List Certificate) : Type 0 where
  pub some : values_read it ≢ []
  pub whole : it.stopped ≡ None
  pub each : AreTexts it.profile (values_read it) certificates

-- the same of files, one after the other
abbrev pub AreCertificatesOf : List PathFile → List Certificate → Type 0
AreCertificatesOf [] certificates = certificates ≡ []
AreCertificatesOf (it ∷ files) certificates =
    (first more : List Certificate) × AreCertificatesIn it first × AreCertificatesOf files more
    × (certificates ≡ first ++ more)

-- a failure on what stands behind the values of a file: it is no value, or the file is empty
abbrev pub IsFailureBehind : List (List ℕ) → List ℕ → Option (ℕ × ReadFault) → Failure → Type 0
IsFailureBehind values file (Some (place, fault)) failure = IsToldOf file place fault failure
IsFailureBehind values file None (Refused named fault) = (values ≡ []) × (named.now ≡ file) × (fault ≡ Breaks Truncated 0)
IsFailureBehind values file None failure = ⊥

-- the first failure on a file, value by value
abbrev pub IsFailureIn : PathFile → Failure → Type 0
IsFailureIn it =
    FailsFirst (IsFailureAmong it.profile (values_read it) it.file.now) (AreCertificateValues it.profile (values_read it))
    (IsFailureBehind (values_read it) it.file.now it.stopped)

-- the first failure on files, behind which one may not have been read
abbrev pub IsFailureOf : List PathFile → Option Failure → Failure → Type 0
IsFailureOf [] unread failure = (unread ≡ Some failure) ⊎ (failure ≡ NoMemory)
IsFailureOf (it ∷ files) unread failure =
    FailsFirst (IsFailureIn it) ((certificates : List Certificate) × AreCertificatesIn it certificates)
    (IsFailureOf files unread) failure
