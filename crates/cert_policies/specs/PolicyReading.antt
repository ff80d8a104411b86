-- How what the extensions of a certificate say of policies is read from their values.
use Rattle.std.specs.Prelude.{ℕ, List, [], Option, Some, None, Result, Ok}
use Rattle.asn.specs.Place.{Place}
use Rattle.asn.specs.Walk.{◌>>=◌}
use Rattle.cert.specs.declared.fault.CertRule.{CertRule}
use Rattle.cert.specs.ExtensionValues.{ExtensionValues, read_if_there}
use Rattle.cert_policies.specs.PolicyExtensions.{PolicyMapping, PolicyExtensions}
use Rattle.cert_policies.specs.CertificatePolicies.{certificate_policies}
use Rattle.cert_policies.specs.PolicyMappings.{policy_mappings}
use Rattle.cert_policies.specs.PolicyConstraints.{PolicyConstraints, policy_constraints}
use Rattle.cert_policies.specs.InhibitAnyPolicy.{inhibit_any_policy}

abbrev pub some_policies : Place → Result (Option (List (List ℕ))) (CertRule × ℕ)
some_policies value = certificate_policies value >>= λ policies. Ok (Some policies)

abbrev pub some_count : Place → Result (Option ℕ) (CertRule × ℕ)
some_count value = inhibit_any_policy value >>= λ count. Ok (Some count)

abbrev pub no_constraints : PolicyConstraints
no_constraints = record { require_explicit_policy = None; inhibit_policy_mapping = None }

abbrev pub policies_if_there : Option Place → Result (Option (List (List ℕ))) (CertRule × ℕ)
policies_if_there value = read_if_there None some_policies value

abbrev pub mappings_if_there : Option Place → Result (List PolicyMapping) (CertRule × ℕ)
mappings_if_there value = read_if_there [] policy_mappings value

abbrev pub constraints_if_there : Option Place → Result PolicyConstraints (CertRule × ℕ)
constraints_if_there value = read_if_there no_constraints policy_constraints value

abbrev pub any_policy_if_there : Option Place → Result (Option ℕ) (CertRule × ℕ)
any_policy_if_there value = read_if_there None some_count value

-- The values are read in this order.
unfoldable pub policy_extensions : ExtensionValues → Result PolicyExtensions (CertRule × ℕ)
policy_extensions values = do
  policies ← policies_if_there values.policies
  mappings ← mappings_if_there values.policy_mappings
  constraints ← constraints_if_there values.policy_constraints
  count ← any_policy_if_there values.inhibit_any_policy
  Ok (record {
    policies = policies;
    mappings = mappings;
    require_explicit_policy = constraints.require_explicit_policy;
    inhibit_policy_mapping = constraints.inhibit_policy_mapping;
    inhibit_any_policy = count;
  })
