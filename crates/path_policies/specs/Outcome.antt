-- Which conditions of policies each certificate of a path meets, and what the processing answers (RFC 5280, 6.1.3 to 6.1.5).
use Rattle.std.specs.Prelude.{◌≡◌, ◌↔◌, ◌<◌, ◌≤◌, ℕ, List, map, Contains}
use Rattle.asn.specs.Oid.{oid_contents}
use Rattle.asn.specs.declared.oid.Oid.{Oid}
use Rattle.path_policies.specs.declared.reason.PolicyReason.TheVariants.{NoValidPolicy, AnyPolicyMapped, NoUserPolicy}
use Rattle.path_policies.specs.declared.reason.PolicyOutcome.{PolicyOutcome}
use Rattle.path_policies.specs.declared.reason.PolicyOutcome.TheVariants.{Good, Bad}
use Rattle.path_policies.specs.declared.reason.PolicySets.{PolicySets}
use Rattle.path_policies.specs.Query.{PolicyQuery, count}
use Rattle.path_policies.specs.Lists.{AreAscending}
use Rattle.path_policies.specs.Acceptance.{HasRequiredPolicy, MapsNoAny, IsAuthorityPolicy, IsUserPolicy, HasUserPolicy}

-- certificate j is acceptable for its policies
pub record IsAcceptable (q : PolicyQuery) (j : ℕ) : Type 0 where
  -- 6.1.3 (f)
  pub required : HasRequiredPolicy q j
  -- 6.1.4 (a)
  pub mapped : MapsNoAny q j

-- so are the certificates before it
abbrev pub AreAcceptableBefore : PolicyQuery → ℕ → Type 0
AreAcceptableBefore q j = (i : ℕ) → 1 ≤ i → i < j → IsAcceptable q i

-- a list has just these policies
abbrev pub ArePolicies : List Oid → (List ℕ → Type 0) → Type 0
ArePolicies policies IsOne = (policy : List ℕ) → (Contains (map oid_contents policies) policy ↔ IsOne policy)

-- all certificates are acceptable, a policy of the user's is valid if one is required, and these are the sets
pub record IsGood (q : PolicyQuery) (sets : PolicySets) : Type 0 where
  pub each : (j : ℕ) → 1 ≤ j → j ≤ count q → IsAcceptable q j
  pub user : HasUserPolicy q
  pub authority_constrained : ArePolicies sets.authority_constrained.items (IsAuthorityPolicy q)
  pub user_constrained : ArePolicies sets.user_constrained.items (IsUserPolicy q)
  pub authority_order : AreAscending sets.authority_constrained.items
  pub user_order : AreAscending sets.user_constrained.items

-- certificate j is the first that is not acceptable
pub record IsFirstUnacceptable (q : PolicyQuery) (j : ℕ) : Type 0 where
  pub from : 1 ≤ j
  pub to : j ≤ count q
  pub before : AreAcceptableBefore q j

-- what is answered
abbrev pub IsPolicyOutcome : PolicyQuery → PolicyOutcome → Type 0
IsPolicyOutcome q (Good sets) = IsGood q sets
IsPolicyOutcome q (Bad j NoValidPolicy) = IsFirstUnacceptable q j × ¬ HasRequiredPolicy q j
IsPolicyOutcome q (Bad j AnyPolicyMapped) = IsFirstUnacceptable q j × (HasRequiredPolicy q j × ¬ MapsNoAny q j)
IsPolicyOutcome q (Bad j NoUserPolicy) = (j ≡ count q) × (((i : ℕ) → 1 ≤ i → i ≤ j → IsAcceptable q i) × ¬ HasUserPolicy q)

-- laws: a path has one outcome

abbrev pub AreSameOutcome : PolicyOutcome → PolicyOutcome → Type 0
AreSameOutcome (Good one) (Good other) =
    (map oid_contents one.authority_constrained.items ≡ map oid_contents other.authority_constrained.items)
    × (map oid_contents one.user_constrained.items ≡ map oid_contents other.user_constrained.items)
AreSameOutcome (Good one) (Bad j reason) = ⊥
AreSameOutcome (Bad i reason) (Good other) = ⊥
AreSameOutcome (Bad i one) (Bad j other) = (i ≡ j) × (one ≡ other)

abbrev pub PolicyOutcomeIsOne : Type 0
PolicyOutcomeIsOne = (q : PolicyQuery) (one other : PolicyOutcome) → IsPolicyOutcome q one → IsPolicyOutcome q other → AreSameOutcome one other
