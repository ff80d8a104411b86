-- Values with which a file begins, one after the other, as certificates.
use Rattle.std.specs.Prelude.{◌≡◌, ◌+◌, ◌<◌, ◌≤◌, ◌⊎◌, ℕ, List, [], ◌∷◌, ◌++◌, length, Option, Some, None, Err}
use Rattle.cert.specs.Certificate.{Certificate}
use Rattle.cert.specs.declared.fault.CertRule.{CertRule}
use Rattle.path.specs.InProfile.{certificate_in}
use Rattle.statements_facts.specs.declared.profile.Profile.{Profile}
use Rattle.der.specs.FirstFault.{FirstFaultIn}
use Rattle.der.specs.declared.fault.Fault.TheVariants.{Refused as Breaks, Memory}
use Rattle.der_stream.specs.declared.reading.ReadFault.{ReadFault}
use Rattle.der_stream.specs.declared.reading.ReadFault.TheVariants.{Fault, Limit, Io}
use Rattle.der_stream.specs.Sequence.{joined}
use Rattle.cli_failures.specs.declared.failure.Failure.{Failure}
use Rattle.cli_failures.specs.declared.failure.Failure.TheVariants.{NoCertificate, NoMemory, Refused}
use Rattle.cli_operands.specs.PathText.{AreTexts, BeginsWithValues}

-- each is the value of a certificate
abbrev pub AreCertificateValues : Profile → List (List ℕ) → Type 0
AreCertificateValues profile values = (certificates : List Certificate) × AreTexts profile values certificates

-- a failure on the value that starts at that place of the file
abbrev pub IsFailureAt : Profile → List ℕ → ℕ → List ℕ → Failure → Type 0
IsFailureAt profile value start file (NoCertificate named rule at) =
    (named.now ≡ file) × ((offset : ℕ) × (certificate_in profile value ≡ Err (rule, offset)) × (at ≡ start + offset))
IsFailureAt profile value start file failure = failure ≡ NoMemory

-- The first of the values that is no certificate, and its first fault. The place counts from the first of them.
pub record IsOtherAmong (profile : Profile) (values : List (List ℕ)) (rule : CertRule) (at : ℕ) : Type 0 where
  pub before : List (List ℕ)
  pub value : List ℕ
  pub behind : List (List ℕ)
  pub values_are : values ≡ before ++ value ∷ behind
  pub read : AreCertificateValues profile before
  pub offset : ℕ
  pub refused : certificate_in profile value ≡ Err (rule, offset)
  pub at_is : at ≡ length (joined before) + offset

abbrev pub IsFailureAmong : Profile → List (List ℕ) → List ℕ → Failure → Type 0
IsFailureAmong profile values file (NoCertificate named rule at) = (named.now ≡ file) × IsOtherAmong profile values rule at
IsFailureAmong profile values file failure = failure ≡ NoMemory

-- Why no value was read behind those that were: as many were as are looked at, or nothing is left, or what is left begins with none.
abbrev pub EndBehind : ℕ → List (List ℕ) → List ℕ → Option (ℕ × ReadFault) → Type 0
EndBehind most values left None = (left ≡ []) ⊎ (length values ≡ most)
EndBehind most values left (Some (place, Fault (Breaks rule at))) =
    (length values < most) × (place ≡ length (joined values)) × (0 < length left) × FirstFaultIn 1 left rule at
EndBehind most values left (Some (place, Fault Memory)) = Unit {0}
EndBehind most values left (Some (place, Limit)) = ⊥
EndBehind most values left (Some (place, Io)) = Unit {0}

-- the octets begin with these values, and no more were read for that reason
pub record ReadUpTo (most : ℕ) (octets : List ℕ) (values : List (List ℕ)) (stopped : Option (ℕ × ReadFault)) : Type 0 where
  pub left : List ℕ
  pub begins : BeginsWithValues octets values left
  pub few : length values ≤ most
  pub end : EndBehind most values left stopped

-- a failure for the fault of the value that starts at that place: memory ran out where no rule is broken
abbrev pub IsToldOf : List ℕ → ℕ → ReadFault → Failure → Type 0
IsToldOf file place (Fault (Breaks rule at)) (Refused named told) =
    (named.now ≡ file) × (told ≡ Breaks rule (place + at))
IsToldOf file place fault failure = failure ≡ NoMemory
