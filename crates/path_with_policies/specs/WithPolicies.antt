-- A path whose policies are processed (RFC 5280, 6.1): what is asked, and what is answered.
use Rattle.std.specs.Prelude.{◌≡◌, ◌≢◌, ◌⊎◌, ◌<◌, ◌≤◌, ℕ, List, map, false}
use Rattle.cert.specs.Certificate.{Certificate, seen_certificate}
use Rattle.cert.specs.declared.certificate.Certificate as code
use Rattle.asn.specs.Oid.{oid_contents}
use Rattle.path.specs.declared.reason.Reason.{Reason}
use Rattle.path.specs.declared.reason.Reason.TheVariants.{NoValidPolicy, AnyPolicyMapped, NoUserPolicy}
use Rattle.path.specs.Query.{Query, Accepts, count}
use Rattle.path.specs.Reason.{reason_rank}
use Rattle.path.specs.Conditions.{MeetsCondition}
use Rattle.path.specs.Validity.{IsServed, IsNotServedFor, IsValidPath}
use Rattle.path_policies.specs.Query.{PolicyQuery, count as policy_count}
use Rattle.path_policies.specs.declared.reason.PolicySets.{PolicySets}
use Rattle.path_policies.specs.Lists.{AreAscending}
use Rattle.path_policies.specs.Acceptance.{HasRequiredPolicy, MapsNoAny, IsAuthorityPolicy, IsUserPolicy, HasUserPolicy}
use Rattle.path_policies.specs.Outcome.{ArePolicies}
use Rattle.path_with_policies.specs.declared.outcome.OutcomeWithPolicies.{OutcomeWithPolicies}
use Rattle.path_with_policies.specs.declared.outcome.OutcomeWithPolicies.TheVariants.{Good, Bad}

-- a certificate whose policies are processed apart
abbrev pub apart : Certificate → Certificate
apart c = record c { extensions = record c.extensions { needs_policy_processing = false } }

abbrev pub seen_apart : code.Certificate → Certificate
seen_apart c = apart (seen_certificate c)

-- A path of such certificates, and what is asked of their policies, those of certificate j under the number j.
pub record QueryWithPolicies : Type 0 where
  pub path : Query
  pub policies : PolicyQuery

-- each certificate has its policies
abbrev pub HasPoliciesOfEach : QueryWithPolicies → Type 0
HasPoliciesOfEach q = policy_count q.policies ≡ count q.path

-- the condition whose breach is the reason, on certificate j; those of policies are 6.1.3 (f), 6.1.4 (a) and 6.1.5 (g)
abbrev pub MeetsWithPolicies : Accepts → QueryWithPolicies → ℕ → Reason → Type 0
MeetsWithPolicies accepts q j NoValidPolicy = HasRequiredPolicy q.policies j
MeetsWithPolicies accepts q j AnyPolicyMapped = MapsNoAny q.policies j
MeetsWithPolicies accepts q j NoUserPolicy = j ≡ count q.path → HasUserPolicy q.policies
MeetsWithPolicies accepts q j reason = MeetsCondition accepts q.path j reason

abbrev pub MeetsAllWithPolicies : Accepts → QueryWithPolicies → ℕ → Type 0
MeetsAllWithPolicies accepts q j = (reason : Reason) → MeetsWithPolicies accepts q j reason

-- each certificate meets all conditions, and these are the policies at the end (6.1.5 (g)), each once
pub record IsValidWithPolicies (accepts : Accepts) (q : QueryWithPolicies) (sets : PolicySets) : Type 0 where
  pub served : IsServed q.path
  pub each : (j : ℕ) → 1 ≤ j → j ≤ count q.path → MeetsAllWithPolicies accepts q j
  pub authority_constrained : ArePolicies sets.authority_constrained.items (IsAuthorityPolicy q.policies)
  pub user_constrained : ArePolicies sets.user_constrained.items (IsUserPolicy q.policies)
  pub authority_order : AreAscending sets.authority_constrained.items
  pub user_order : AreAscending sets.user_constrained.items

-- certificate j is the first that breaks a condition, and of those that it breaks this is the one of the least rank
pub record IsFirstBrokenWithPolicies (accepts : Accepts) (q : QueryWithPolicies) (j : ℕ) (reason : Reason) : Type 0 where
  pub served : IsServed q.path
  pub from : 1 ≤ j
  pub to : j ≤ count q.path
  pub broken : ¬ MeetsWithPolicies accepts q j reason
  pub lesser : (other : Reason) → reason_rank other < reason_rank reason → MeetsWithPolicies accepts q j other
  pub before : (i : ℕ) → 1 ≤ i → i < j → MeetsAllWithPolicies accepts q i

-- where it fails first; 0 stands for the path itself
abbrev pub IsFirstFailureWithPolicies : Accepts → QueryWithPolicies → ℕ → Reason → Type 0
IsFirstFailureWithPolicies accepts q j reason =
    ((j ≡ 0) × IsNotServedFor q.path reason) ⊎ IsFirstBrokenWithPolicies accepts q j reason

-- what a validation answers
abbrev pub IsOutcomeWithPolicies : Accepts → QueryWithPolicies → OutcomeWithPolicies → Type 0
IsOutcomeWithPolicies accepts q (Good sets) = IsValidWithPolicies accepts q sets
IsOutcomeWithPolicies accepts q (Bad j reason) = IsFirstFailureWithPolicies accepts q j reason

-- laws: a path has one outcome

abbrev pub AreSameWithPolicies : OutcomeWithPolicies → OutcomeWithPolicies → Type 0
AreSameWithPolicies (Good one) (Good other) =
    (map oid_contents one.authority_constrained.items ≡ map oid_contents other.authority_constrained.items)
    × (map oid_contents one.user_constrained.items ≡ map oid_contents other.user_constrained.items)
AreSameWithPolicies (Good one) (Bad j reason) = ⊥
AreSameWithPolicies (Bad i reason) (Good other) = ⊥
AreSameWithPolicies (Bad i one) (Bad j other) = (i ≡ j) × (one ≡ other)

abbrev pub OutcomeWithPoliciesIsOne : Type 0
OutcomeWithPoliciesIsOne =
    (accepts : Accepts) (q : QueryWithPolicies) (one other : OutcomeWithPolicies) → HasPoliciesOfEach q →
    IsOutcomeWithPolicies accepts q one → IsOutcomeWithPolicies accepts q other → AreSameWithPolicies one other

-- and a path that is valid so is valid without its policies
abbrev pub ValidIsValidWithoutPolicies : Type 0
ValidIsValidWithoutPolicies =
    (accepts : Accepts) (q : QueryWithPolicies) (sets : PolicySets) → IsValidWithPolicies accepts q sets → IsValidPath accepts q.path
