-- How a question about a path and its policies comes from a question about the path, or from octets.
use Rattle.std.specs.Prelude.{◌≡◌, ◌⊎◌, ◌<◌, ◌+◌, ◌∷◌, ℕ, List, [], length, map, Ok, IsOk, slice_index_or}
use Rattle.cert.specs.declared.fault.CertFault.{CertFault}
use Rattle.cert.specs.Certificate.{Certificate, certificate}
use Rattle.cert.specs.Fault.{FailsUnlessFull}
use Rattle.path.specs.declared.query.Query as code
use Rattle.path.specs.Query.{Query}
use Rattle.path.specs.Reading.{IsFirstRefused, seen_query}
use Rattle.path_policies.specs.Query.{PolicyQuery}
use Rattle.path_policies.specs.Reading.{policy_certificate}
use Rattle.path_policies.specs.Seen.{contents_of}
use Rattle.path_with_policies.specs.declared.query.PolicyInputs.{PolicyInputs}
use Rattle.path_with_policies.specs.WithPolicies.{QueryWithPolicies, apart}

-- the user's inputs are asked for
pub record HasInputs (inputs : PolicyInputs) (q : PolicyQuery) : Type 0 where
  pub initial_policies : q.initial_policies ≡ contents_of inputs.initial_policies.now
  pub inhibit_policy_mapping : q.inhibit_policy_mapping ≡ inputs.inhibit_policy_mapping
  pub require_explicit_policy : q.require_explicit_policy ≡ inputs.require_explicit_policy
  pub inhibit_any_policy : q.inhibit_any_policy ≡ inputs.inhibit_any_policy

-- the path has these certificates, their policies apart, and these are their policies
pub record AreTakenApart (certificates : List Certificate) (q : QueryWithPolicies) : Type 0 where
  pub path : q.path.certificates ≡ map apart certificates
  pub policies : map policy_certificate certificates ≡ map Ok q.policies.certificates

-- the question is about the path of a query
pub record IsOf (query : Query) (q : QueryWithPolicies) : Type 0 where
  pub anchor : q.path.anchor ≡ query.anchor
  pub moment : q.path.moment ≡ query.moment
  pub purpose : q.path.purpose ≡ query.purpose
  pub options : q.path.options ≡ query.options
  pub certificates : AreTakenApart query.certificates q

abbrev pub IsOfQuery : code.Query → QueryWithPolicies → Type 0
IsOfQuery query q = IsOf (seen_query query) q

-- it is about the path of certificates that texts are
abbrev pub IsPathOf : List (List ℕ) → QueryWithPolicies → Type 0
IsPathOf texts q = (certificates : List Certificate) × (map certificate texts ≡ map Ok certificates) × AreTakenApart certificates q

-- Certificate j, from 1 on, is the first whose extensions about policies are malformed, and this is the fault; or memory ran out, and
-- those before are not.
pub record IsFirstMalformed (certificates : List Certificate) (j : ℕ) (fault : CertFault) : Type 0 where
  pub index : ℕ
  pub number : j ≡ index + 1
  pub within : index < length certificates
  pub refused : (c : Certificate) → FailsUnlessFull fault (policy_certificate (slice_index_or certificates index c))
  pub before : (i : ℕ) (c : Certificate) → i < index → IsOk (policy_certificate (slice_index_or certificates i c))

abbrev pub IsRefusedFor : code.Query → ℕ → CertFault → Type 0
IsRefusedFor query j fault = IsFirstMalformed (seen_query query).certificates j fault

-- A text is no certificate, the first one, the anchor being 0; or all are, and the policies of one are refused.
abbrev pub IsTextRefused : List ℕ → List (List ℕ) → ℕ → CertFault → Type 0
IsTextRefused anchor texts j fault =
    IsFirstRefused (anchor ∷ texts) j fault
    ⊎ ((certificates : List Certificate) × (map certificate texts ≡ map Ok certificates) × IsFirstMalformed certificates j fault)
