-- A search whose paths have their policies processed (RFC 5280, 6.1): what is asked, and which paths are valid then.
use Rattle.std.specs.Prelude.{ℕ, List, ◌∷◌, Bool, map, reverse, slice_index_or}
use Rattle.path.specs.Query.{Accepts}
use Rattle.path_issuers.specs.Search.{Search, Candidate, query_about}
use Rattle.path_policies.specs.Query.{PolicyCertificate, PolicyQuery}
use Rattle.path_policies.specs.Seen.{contents_of, seen_policy_certificate}
use Rattle.path_policies.specs.declared.reason.PolicySets.{PolicySets}
use Rattle.path_with_policies.specs.WithPolicies.{QueryWithPolicies, IsValidWithPolicies}
use Rattle.relying_policies.specs.declared.policies.SearchPolicies as code

-- What counts for policies of the certificates at hand, of those in the bag place by place, and what the user asks (6.1.1).
pub record SearchPolicies : Type 0 where
  pub bag : List PolicyCertificate
  pub target : PolicyCertificate
  -- user-initial-policy-set (c); with anyPolicy among them, every policy
  pub initial_policies : List (List ℕ)
  -- initial-policy-mapping-inhibit (e), initial-explicit-policy (f), initial-any-policy-inhibit (g)
  pub inhibit_policy_mapping : Bool
  pub require_explicit_policy : Bool
  pub inhibit_any_policy : Bool

abbrev pub seen_search_policies : code.SearchPolicies → SearchPolicies
seen_search_policies read = record {
  bag = map seen_policy_certificate read.bag.now;
  target = seen_policy_certificate read.target.now;
  initial_policies = contents_of read.inputs.initial_policies.now;
  inhibit_policy_mapping = read.inputs.inhibit_policy_mapping;
  require_explicit_policy = read.inputs.require_explicit_policy;
  inhibit_any_policy = read.inputs.inhibit_any_policy;
}

-- what counts of the certificate at a place; at a place that is not there, of the target
abbrev pub policies_at : SearchPolicies → ℕ → PolicyCertificate
policies_at p place = slice_index_or p.bag place p.target

-- what counts of the certificates down to the target, of which those above it are given by their places, from the target upward
abbrev pub policies_down_to_target : SearchPolicies → List ℕ → List PolicyCertificate
policies_down_to_target p above = reverse (p.target ∷ map (policies_at p) above)

-- the question about the policies of a candidate's path
abbrev pub policies_about : SearchPolicies → Candidate → PolicyQuery
policies_about p c = record {
  certificates = policies_down_to_target p c.above;
  initial_policies = p.initial_policies;
  inhibit_policy_mapping = p.inhibit_policy_mapping;
  require_explicit_policy = p.require_explicit_policy;
  inhibit_any_policy = p.inhibit_any_policy;
}

-- the question about the path and its policies
abbrev pub query_with_policies_about : Search → SearchPolicies → Candidate → QueryWithPolicies
query_with_policies_about s p c = record { path = query_about s c; policies = policies_about p c }

-- the path is valid with its policies, with these sets at the end
abbrev pub IsValidUnderPolicies : SearchPolicies → Accepts → Search → Candidate → Type 0
IsValidUnderPolicies p accepts s c = (sets : PolicySets) × IsValidWithPolicies accepts (query_with_policies_about s p c) sets
