-- What each field of PolicyExtensions says, by the value of the extension that it comes from (RFC 5280, 4.2.1).
use Rattle.std.specs.Prelude.{◌≡◌, ◌↔◌, ℕ, List, [], Option, Some, None, Ok}
use Rattle.asn.specs.DerLaws.{AreOctets}
use Rattle.asn.specs.Place.{Place}
use Rattle.cert.specs.Certificate.{Certificate}
use Rattle.cert.specs.CertificateForms.{IsCertificate}
use Rattle.cert.specs.ExtensionValues.{ExtensionValues, SaysIfThere}
use Rattle.cert_policies.specs.PolicyExtensions.{PolicyExtensions}
use Rattle.cert_policies.specs.CertificatePolicies.{AreCertificatePolicies}
use Rattle.cert_policies.specs.PolicyMappings.{ArePolicyMappings}
use Rattle.cert_policies.specs.PolicyConstraints.{PolicyConstraints, ArePolicyConstraints}
use Rattle.cert_policies.specs.InhibitAnyPolicy.{IsInhibitAnyPolicy}
use Rattle.cert_policies.specs.PolicyReading.{no_constraints, policy_extensions}

abbrev pub SaysPolicies : Place → Option (List (List ℕ)) → Type 0
SaysPolicies value field = (policies : List (List ℕ)) × AreCertificatePolicies value policies × (field ≡ Some policies)

abbrev pub SaysInhibitAnyPolicy : Place → Option ℕ → Type 0
SaysInhibitAnyPolicy value field = (count : ℕ) × IsInhibitAnyPolicy value count × (field ≡ Some count)

-- the two fields of policyConstraints
abbrev pub constraints_in : PolicyExtensions → PolicyConstraints
constraints_in fields =
    record { require_explicit_policy = fields.require_explicit_policy; inhibit_policy_mapping = fields.inhibit_policy_mapping }

-- Each field is what the value of its extension says: certificatePolicies, policyMappings, policyConstraints, inhibitAnyPolicy. Without the
-- extension, the field is None or empty.
pub record ArePolicyFields (values : ExtensionValues) (fields : PolicyExtensions) : Type 0 where
  pub policies : SaysIfThere values.policies SaysPolicies None fields.policies
  pub mappings : SaysIfThere values.policy_mappings ArePolicyMappings [] fields.mappings
  pub constraints : SaysIfThere values.policy_constraints ArePolicyConstraints no_constraints (constraints_in fields)
  pub inhibit_any_policy : SaysIfThere values.inhibit_any_policy SaysInhibitAnyPolicy None fields.inhibit_any_policy

abbrev pub PolicyExtensionsAreByField : Type 0
PolicyExtensionsAreByField =
    (octets : List ℕ) (certificate : Certificate) (fields : PolicyExtensions) → AreOctets octets → IsCertificate octets certificate →
    (policy_extensions certificate.extensions.values ≡ Ok fields) ↔ ArePolicyFields certificate.extensions.values fields
