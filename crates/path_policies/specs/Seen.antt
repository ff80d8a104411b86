-- What the code is asked, without where it lies in memory.
use Rattle.std.specs.Prelude.{List, map, ℕ, false, slice_index_or}
use Rattle.asn.specs.Oid.{oid_contents}
use Rattle.asn.specs.declared.oid.Oid.{Oid}
use Rattle.cert_policies.specs.PolicyExtensions.{seen_policy_extensions}
use Rattle.path_policies.specs.declared.query.PolicyCertificate as certificate
use Rattle.path_policies.specs.declared.query.PolicyQuery as query
use Rattle.path_policies.specs.declared.inhibitions.Inhibitions as inhibitions
use Rattle.path_policies.specs.Query.{PolicyCertificate, PolicyQuery}
use Rattle.path_policies.specs.Steps.{Inhibitions}

abbrev pub seen_policy_certificate : certificate.PolicyCertificate → PolicyCertificate
seen_policy_certificate read = record { self_issued = read.self_issued; extensions = seen_policy_extensions read.extensions }

abbrev pub contents_of : List Oid → List (List ℕ)
contents_of policies = map oid_contents policies

abbrev pub seen_query : query.PolicyQuery → PolicyQuery
seen_query read = record {
  certificates = map seen_policy_certificate read.certificates.now;
  initial_policies = contents_of read.initial_policies.now;
  inhibit_policy_mapping = read.inhibit_policy_mapping;
  require_explicit_policy = read.require_explicit_policy;
  inhibit_any_policy = read.inhibit_any_policy;
}

abbrev pub seen_inhibitions : inhibitions.Inhibitions → Inhibitions
seen_inhibitions read = record {
  allows_any = read.allows_any;
  mapping_inhibited = read.mapping_inhibited;
  policy_required = read.policy_required;
  required_behind = read.required_behind;
}

-- none are
abbrev pub no_inhibitions : inhibitions.Inhibitions
no_inhibitions = record { allows_any = false; mapping_inhibited = false; policy_required = false; required_behind = false }

-- those of the certificate behind i others
abbrev pub inhibitions_in : List inhibitions.Inhibitions → ℕ → Inhibitions
inhibitions_in each i = seen_inhibitions (slice_index_or each i no_inhibitions)
