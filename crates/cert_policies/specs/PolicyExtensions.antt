-- What the extensions of a certificate say of policies (RFC 5280, 4.2.1.4, 4.2.1.5, 4.2.1.11 and 4.2.1.14). Policies are told by the contents
-- octets of their OBJECT IDENTIFIERs.
use Rattle.std.specs.Prelude.{ℕ, List, map, Option}
use Rattle.asn.specs.Walk.{seen}
use Rattle.asn.specs.Oid.{oid_contents}
use Rattle.std.specs.Global.{Vec}
use Rattle.asn.specs.declared.oid.Oid.{Oid}
use Rattle.cert_policies.specs.declared.extensions.PolicyExtensions as code
use Rattle.cert_policies.specs.declared.mappings.PolicyMapping as mapping

-- a policy of the issuer's domain that one of the subject's counts as
pub record PolicyMapping : Type 0 where
  pub issuer_domain_policy : List ℕ
  pub subject_domain_policy : List ℕ

pub record PolicyExtensions : Type 0 where
  -- the policies that certificatePolicies states, where there is one
  pub policies : Option (List (List ℕ))
  pub mappings : List PolicyMapping
  pub require_explicit_policy : Option ℕ
  pub inhibit_policy_mapping : Option ℕ
  pub inhibit_any_policy : Option ℕ

abbrev pub seen_mapping : mapping.PolicyMapping → PolicyMapping
seen_mapping read = record {
  issuer_domain_policy = oid_contents read.issuer_domain_policy;
  subject_domain_policy = oid_contents read.subject_domain_policy;
}

abbrev pub seen_policies : Vec Oid → List (List ℕ)
seen_policies policies = map oid_contents policies.items

abbrev pub seen_mappings : Vec mapping.PolicyMapping → List PolicyMapping
seen_mappings mappings = map seen_mapping mappings.items

abbrev pub seen_policy_extensions : code.PolicyExtensions → PolicyExtensions
seen_policy_extensions read = record {
  policies = seen seen_policies read.policies;
  mappings = seen_mappings read.mappings;
  require_explicit_policy = read.require_explicit_policy;
  inhibit_policy_mapping = read.inhibit_policy_mapping;
  inhibit_any_policy = read.inhibit_any_policy;
}
