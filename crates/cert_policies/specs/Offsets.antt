-- Which faults are found in the extensions of a certificate that was read, and where.
use Rattle.std.specs.Prelude.{◌≡◌, ◌⊎◌, ◌≤◌, ℕ, List, length, Err}
use Rattle.asn.specs.DerLaws.{AreOctets}
use Rattle.asn.specs.Rule.{Rule}
use Rattle.cert.specs.declared.fault.CertRule.{CertRule}
use Rattle.cert.specs.declared.fault.CertRule.TheVariants.{Der, ExtensionValue}
use Rattle.cert.specs.Certificate.{Certificate}
use Rattle.cert.specs.CertificateForms.{IsCertificate}
use Rattle.cert_policies.specs.PolicyReading.{policy_extensions}

-- the value of an extension is not DER, or does not have the layout of its type
abbrev pub IsOfValue : CertRule → Type 0
IsOfValue rule = (rule ≡ ExtensionValue) ⊎ ((broken : Rule) × (rule ≡ Der broken))

-- The offset is that of an octet of the certificate, or of its end.
abbrev pub PolicyFaultIsOfValue : Type 0
PolicyFaultIsOfValue =
    (octets : List ℕ) (certificate : Certificate) (rule : CertRule) (at : ℕ) → AreOctets octets → IsCertificate octets certificate →
    policy_extensions certificate.extensions.values ≡ Err (rule, at) → IsOfValue rule × (at ≤ length octets)
