-- The policies that are asked about, as the code has them.
use Rattle.std.specs.Prelude.{List, map}
use Rattle.path_policies.specs.declared.query.PolicyCertificate as taken
use Rattle.path_policies.specs.Query.{PolicyQuery}
use Rattle.path_policies.specs.Seen.{contents_of, seen_policy_certificate}
use Rattle.path_with_policies.specs.declared.query.PolicyInputs.{PolicyInputs}

abbrev pub asked_of : List taken.PolicyCertificate → PolicyInputs → PolicyQuery
asked_of certificates inputs = record {
  certificates = map seen_policy_certificate certificates;
  initial_policies = contents_of inputs.initial_policies.now;
  inhibit_policy_mapping = inputs.inhibit_policy_mapping;
  require_explicit_policy = inputs.require_explicit_policy;
  inhibit_any_policy = inputs.inhibit_any_policy;
}
