-- The bases that are found are those of a certificate's constraints (RFC 5280, 4.2.1.10).
use Rattle.std.specs.Prelude.{◌≡◌, ◌==◌, ℕ, List, filter_map, Option, Some, None, Ok, if◌then◌else◌}
use Rattle.std.specs.List.{AllZip}
use Rattle.asn.specs.DerLaws.{AreOctets}
use Rattle.names.specs.GeneralLayout.{SubtreeBase, other_base}
use Rattle.names_hosts.specs.Hosts.{AreHostsOf}
use Rattle.names_hosts.specs.Mail.{IsMailOf}
use Rattle.cert.specs.Certificate.{Certificate}
use Rattle.cert.specs.CertificateForms.{IsCertificate}
use Rattle.cert.specs.CertificateHosts.{CertificateHosts}
use Rattle.cert.specs.NameConstraints.{NameConstraints}
use Rattle.cert_hosts.specs.HostsWalk.{certificate_hosts}

-- the text of a base of one form
abbrev pub base_text : ℕ → SubtreeBase → Option (List ℕ)
base_text form (other_base number text) = if number == form then Some text else None
base_text form _ = None

-- each base of one of these forms is found, in order, and nothing else
pub record HasItsBases (constraints : NameConstraints) (hosts : CertificateHosts) : Type 0 where
  pub permitted_mail : AllZip IsMailOf (filter_map (base_text 1) constraints.permitted) hosts.permitted_mail
  pub excluded_mail : AllZip IsMailOf (filter_map (base_text 1) constraints.excluded) hosts.excluded_mail
  pub permitted_hosts : AllZip AreHostsOf (filter_map (base_text 6) constraints.permitted) hosts.permitted_hosts
  pub excluded_hosts : AllZip AreHostsOf (filter_map (base_text 6) constraints.excluded) hosts.excluded_hosts

abbrev pub BasesAreItsOwn : Type 0
BasesAreItsOwn =
    (octets : List ℕ) (certificate : Certificate) (hosts : CertificateHosts) →
    AreOctets octets → IsCertificate octets certificate → certificate_hosts certificate ≡ Ok hosts →
    HasItsBases certificate.extensions.name_constraints hosts
