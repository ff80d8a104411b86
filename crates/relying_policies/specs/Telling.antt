-- What the outcome of policies tells of a path that is valid without them.
use Rattle.std.specs.Prelude.{◌↔◌, Bool, IsTrue}
use Rattle.path.specs.Query.{Accepts}
use Rattle.path.specs.Validity.{IsValidPath}
use Rattle.path_policies.specs.Outcome.{IsPolicyOutcome}
use Rattle.path_policies.specs.declared.reason.PolicyOutcome.{PolicyOutcome}
use Rattle.path_policies.specs.declared.reason.PolicySets.{PolicySets}
use Rattle.path_with_policies.specs.WithPolicies.{QueryWithPolicies, HasPoliciesOfEach, IsValidWithPolicies}

-- of whatever valid path this is the outcome of the policies, it tells whether the path is valid with them
abbrev pub TellsWithPolicies : PolicyOutcome → Bool → Type 0
TellsWithPolicies outcome told =
    (accepts : Accepts) (q : QueryWithPolicies) → HasPoliciesOfEach q → IsValidPath accepts q.path → IsPolicyOutcome q.policies outcome
    → (IsTrue told ↔ ((sets : PolicySets) × IsValidWithPolicies accepts q sets))
