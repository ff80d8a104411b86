-- A certificate in which mail addresses and the hosts of URIs count (RFC 5280, 4.2.1.10): it carries what it says of them, and no subtree of
-- these forms among those that path validation does not process.
use Rattle.std.specs.Prelude.{◌≡◌, ◌≤◌, ◌||◌, ℕ, Bool, not, List, filter, length, Ok, Err}
use Rattle.asn.specs.DerLaws.{AreOctets}
use Rattle.names.specs.declared.general.Form.TheVariants as F
use Rattle.names.specs.GeneralLayout.{SubtreeBase}
use Rattle.names.specs.GeneralCoverage.{is_of_form}
use Rattle.cert.specs.declared.fault.CertRule.{CertRule}
use Rattle.cert.specs.Certificate.{Certificate}
use Rattle.cert.specs.CertificateForms.{IsCertificate}
use Rattle.cert.specs.CertificateHosts.{CertificateHosts}
use Rattle.cert.specs.NameConstraints.{NameConstraints}
use Rattle.cert_hosts.specs.HostsWalk.{certificate_hosts}

-- a subtree of neither rfc822Names [1] nor uniformResourceIdentifiers [6]
abbrev pub is_other_base : SubtreeBase → Bool
is_other_base base = not (is_of_form base (F.Other 1) || is_of_form base (F.Other 6))

abbrev pub other_constraints : NameConstraints → NameConstraints
other_constraints constraints =
    record { permitted = filter is_other_base constraints.permitted; excluded = filter is_other_base constraints.excluded }

-- the certificate with what it says of mail addresses and hosts
abbrev pub hosted : Certificate → CertificateHosts → Certificate
hosted read hosts = record read {
  extensions = record read.extensions { name_constraints = other_constraints read.extensions.name_constraints };
  hosts = hosts;
}

pub record HasTakenHosts (read taken : Certificate) : Type 0 where
  pub hosts : CertificateHosts
  pub are_its : certificate_hosts read ≡ Ok hosts
  pub is_taken : taken ≡ hosted read hosts

-- The offset of a fault is that of an octet of the certificate, or of its end.
abbrev pub HostFaultIsWithin : Type 0
HostFaultIsWithin =
    (octets : List ℕ) (certificate : Certificate) (rule : CertRule) (at : ℕ) →
    AreOctets octets → IsCertificate octets certificate → certificate_hosts certificate ≡ Err (rule, at) → at ≤ length octets
