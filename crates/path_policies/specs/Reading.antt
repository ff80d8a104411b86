-- What is taken of certificates for policies.
use Rattle.std.specs.Prelude.{◌≡◌, ◌<◌, ℕ, List, length, slice_index_or, IsOk, Result, Ok}
use Rattle.asn.specs.Walk.{◌>>=◌}
use Rattle.cert.specs.declared.fault.CertFault.{CertFault}
use Rattle.cert.specs.declared.fault.CertRule.{CertRule}
use Rattle.cert.specs.declared.certificate.Certificate as code
use Rattle.cert.specs.Certificate.{Certificate, is_self_issued, seen_certificate}
use Rattle.cert.specs.Fault.{FailsUnlessFull}
use Rattle.cert_policies.specs.PolicyReading.{policy_extensions}
use Rattle.path_policies.specs.declared.query.PolicyCertificate as taken
use Rattle.path_policies.specs.Query.{PolicyCertificate}
use Rattle.path_policies.specs.Seen.{seen_policy_certificate}

-- whether it is self-issued, and what its extensions say of policies
unfoldable pub policy_certificate : Certificate → Result PolicyCertificate (CertRule × ℕ)
policy_certificate c = policy_extensions c.extensions.values >>= λ extensions. Ok (record { self_issued = is_self_issued c; extensions = extensions })

-- the first of the certificates, so many, give these
pub record AreTaken (certificates : List code.Certificate) (count : ℕ) (read : List taken.PolicyCertificate) : Type 0 where
  pub count_is : length read ≡ count
  pub each : (i : ℕ) (c : code.Certificate) (p : taken.PolicyCertificate) → i < count →
      policy_certificate (seen_certificate (slice_index_or certificates i c)) ≡ Ok (seen_policy_certificate (slice_index_or read i p))

-- all of them do
abbrev pub AreAllTaken : List code.Certificate → List taken.PolicyCertificate → Type 0
AreAllTaken certificates read = AreTaken certificates (length certificates) read

-- this one is the first whose extensions about policies are malformed, and this is the fault; or memory ran out, and those before are not
pub record IsFirstRefused (certificates : List code.Certificate) (i : ℕ) (fault : CertFault) : Type 0 where
  pub within : i < length certificates
  pub refused : (c : code.Certificate) → FailsUnlessFull fault (policy_certificate (seen_certificate (slice_index_or certificates i c)))
  pub before : (j : ℕ) (c : code.Certificate) → j < i → IsOk (policy_certificate (seen_certificate (slice_index_or certificates j c)))
