-- Certificates as a profile reads them. In the wide profile each carries the names under which lists about it are published (RFC 5280,
-- 4.2.1.13), and what it says of mail addresses and of the hosts of URIs (4.2.1.10); in the stated profile it carries neither.
use Rattle.std.specs.Prelude.{◌≡◌, ◌≤◌, ◌⊎◌, ◌↔◌, ℕ, List, length, Option, Result, Ok, Err, IsOk}
use Rattle.asn.specs.DerLaws.{AreOctets}
use Rattle.asn.specs.Walk.{◌>>=◌}
use Rattle.statements_facts.specs.declared.profile.Profile.{Profile}
use Rattle.statements_facts.specs.declared.profile.Profile.TheVariants.{Stated, Wide}
use Rattle.cert.specs.declared.fault.CertRule.{CertRule}
use Rattle.cert.specs.Certificate.{Certificate, certificate}
use Rattle.cert.specs.CertificateForms.{IsCertificate}
use Rattle.cert.specs.CertificatePoints.{no_points}
use Rattle.cert.specs.CertificateHosts.{CertificateHosts, no_hosts}
use Rattle.cert_hosts.specs.HostsWalk.{certificate_hosts}
use Rattle.cert_hosts.specs.Reading.{SaysHosts}
use Rattle.cert_hosts.specs.Taken.{HasTakenHosts, hosted}
use Rattle.cert_points.specs.DistributionPoint.{DistributionPoint}
use Rattle.cert_points.specs.PointReading.{certificate_points, SayPoints}
use Rattle.cert_points.specs.Published.{HasTakenPoints, names_if_found}
use Rattle.cert_points.specs.Offsets.{IsOfPoints}

-- the certificate with the names of its points
abbrev pub pointed : Certificate → Option (List DistributionPoint) → Certificate
pointed read points = record read { points = names_if_found points }

unfoldable pub with_points : Certificate → Result Certificate (CertRule × ℕ)
with_points read = certificate_points read.extensions.values >>= λ points. Ok (pointed read points)

-- and with what it says of mail addresses and hosts
unfoldable pub with_hosts : Certificate → Result Certificate (CertRule × ℕ)
with_hosts read = certificate_hosts read >>= λ hosts. Ok (hosted read hosts)

unfoldable pub widened : Certificate → Result Certificate (CertRule × ℕ)
widened read = with_points read >>= λ pointed. with_hosts pointed

unfoldable pub wide_certificate : List ℕ → Result Certificate (CertRule × ℕ)
wide_certificate octets = certificate octets >>= λ read. widened read

-- The checks in their order: those of a certificate, and in the wide profile then those of its points, and those of its mail addresses and
-- hosts.
abbrev pub certificate_in : Profile → List ℕ → Result Certificate (CertRule × ℕ)
certificate_in Stated octets = certificate octets
certificate_in Wide octets = wide_certificate octets

-- The octets are a certificate, it says these points and hosts, and the fields are those of the certificate with both.
pub record IsWideCertificate (octets : List ℕ) (fields : Certificate) : Type 0 where
  pub read : Certificate
  pub points : Option (List DistributionPoint)
  pub hosts : CertificateHosts
  pub is_certificate : IsCertificate octets read
  pub say : SayPoints read.extensions.values points
  pub says : SaysHosts read hosts
  pub fields_are : fields ≡ hosted (pointed read points) hosts

abbrev pub IsCertificateIn : Profile → List ℕ → Certificate → Type 0
IsCertificateIn Stated octets fields = IsCertificate octets fields
IsCertificateIn Wide octets fields = IsWideCertificate octets fields

-- what is read in a profile is exactly that; and its fields are the only ones
abbrev pub CertificateIsExactIn : Profile → Type 0
CertificateIsExactIn profile =
    (octets : List ℕ) (fields : Certificate) → AreOctets octets →
    (certificate_in profile octets ≡ Ok fields) ↔ IsCertificateIn profile octets fields

abbrev pub CertificateIsUniqueIn : Profile → Type 0
CertificateIsUniqueIn profile =
    (octets : List ℕ) (one other : Certificate) → AreOctets octets →
    IsCertificateIn profile octets one → IsCertificateIn profile octets other → one ≡ other

-- a certificate that was read, as the wide profile takes it
pub record IsWidened (read taken : Certificate) : Type 0 where
  pub between : Certificate
  pub points : HasTakenPoints read between
  pub hosts : HasTakenHosts between taken

-- for this fault the wide profile alone refuses a certificate that was read: it is that of its points, or, if they are read, that of its
-- mail addresses and hosts
abbrev pub IsWideFault : Certificate → CertRule × ℕ → Type 0
IsWideFault read fault =
    (certificate_points read.extensions.values ≡ Err fault)
    ⊎ (IsOk (certificate_points read.extensions.values) × (certificate_hosts read ≡ Err fault))

-- What the wide profile answers, by what the stated one does: the same refusal; or the same certificate, with its points and hosts; or a
-- refusal for these alone.
abbrev pub AnswersAlike :
    Result Certificate (CertRule × ℕ) → Result Certificate (CertRule × ℕ) → Type 0
AnswersAlike (Err fault) wide = wide ≡ Err fault
AnswersAlike (Ok read) (Ok taken) = IsWidened read taken
AnswersAlike (Ok read) (Err fault) = IsWideFault read fault

abbrev pub ProfilesDifferInPointsAndHosts : Type 0
ProfilesDifferInPointsAndHosts =
    (octets : List ℕ) → AnswersAlike (certificate octets) (certificate_in Wide octets)

abbrev pub StatedCertificateHasNeither : Type 0
StatedCertificateHasNeither =
    (octets : List ℕ) (read : Certificate) → AreOctets octets →
    certificate_in Stated octets ≡ Ok read → (read.points ≡ no_points) × (read.hosts ≡ no_hosts)

-- If the wide profile alone refuses a certificate, the fault is one of points, or that of its mail addresses and hosts, at an octet of the
-- certificate or at its end.
abbrev pub WideFaultIsOfPointsOrHosts : Type 0
WideFaultIsOfPointsOrHosts =
    (octets : List ℕ) (read : Certificate) (rule : CertRule) (at : ℕ) → AreOctets octets →
    certificate_in Stated octets ≡ Ok read → certificate_in Wide octets ≡ Err (rule, at) →
    (IsOfPoints rule ⊎ (certificate_hosts read ≡ Err (rule, at))) × (at ≤ length octets)
