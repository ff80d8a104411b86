-- The outcome of a path whose policies are processed, by that of the path without them and that of its policies alone.
use Rattle.path.specs.declared.reason.Reason.{Reason}
use Rattle.path.specs.declared.reason.Reason.TheVariants as all
use Rattle.path.specs.declared.reason.Outcome.{Outcome}
use Rattle.path.specs.Query.{Accepts}
use Rattle.path.specs.Validity.{IsOutcome}
use Rattle.path_policies.specs.declared.reason.PolicyReason.{PolicyReason}
use Rattle.path_policies.specs.declared.reason.PolicyReason.TheVariants.{NoValidPolicy, AnyPolicyMapped, NoUserPolicy}
use Rattle.path_policies.specs.declared.reason.PolicyOutcome.{PolicyOutcome}
use Rattle.path_policies.specs.Outcome.{IsPolicyOutcome}
use Rattle.path_with_policies.specs.declared.outcome.OutcomeWithPolicies.{OutcomeWithPolicies}
use Rattle.path_with_policies.specs.WithPolicies.{QueryWithPolicies, HasPoliciesOfEach, IsOutcomeWithPolicies}

abbrev pub reason_of : PolicyReason → Reason
reason_of NoValidPolicy = all.NoValidPolicy
reason_of AnyPolicyMapped = all.AnyPolicyMapped
reason_of NoUserPolicy = all.NoUserPolicy

-- each certificate has its policies, and these are the two outcomes
pub record AreOutcomesOf (accepts : Accepts) (q : QueryWithPolicies) (outcome : Outcome) (policies : PolicyOutcome) : Type 0 where
  pub counts : HasPoliciesOfEach q
  pub of_path : IsOutcome accepts q.path outcome
  pub of_policies : IsPolicyOutcome q.policies policies

-- Of whatever path these are the two outcomes, this is the one.
abbrev pub Joins : Outcome → PolicyOutcome → OutcomeWithPolicies → Type 0
Joins outcome policies joined =
    (accepts : Accepts) (q : QueryWithPolicies) → AreOutcomesOf accepts q outcome policies → IsOutcomeWithPolicies accepts q joined
