-- When a path is valid (RFC 5280, 6.1), and else which certificate is refused, and why.
use Rattle.std.specs.Prelude.{◌≡◌, ◌⊎◌, ◌<◌, ◌≤◌, ℕ}
use Rattle.path.specs.declared.reason.Reason.{Reason}
use Rattle.path.specs.declared.reason.Reason.TheVariants.{Empty, TooLong}
use Rattle.path.specs.declared.reason.Outcome.{Outcome}
use Rattle.path.specs.declared.reason.Outcome.TheVariants.{Good, Bad}
use Rattle.path.specs.Query.{Query, Accepts, count}
use Rattle.path.specs.Reason.{reason_rank}
use Rattle.path.specs.Conditions.{MeetsCondition, MeetsConditions}

-- there is a certificate, and there are at most 128 (a choice of the profile)
pub record IsServed (q : Query) : Type 0 where
  pub some : 1 ≤ count q
  pub few : count q ≤ 128

-- each certificate meets all conditions
pub record IsValidPath (accepts : Accepts) (q : Query) : Type 0 where
  pub served : IsServed q
  pub each : (j : ℕ) → 1 ≤ j → j ≤ count q → MeetsConditions accepts q j

-- of the conditions that certificate j breaks, this is the one of the least rank
pub record IsLeastBroken (accepts : Accepts) (q : Query) (j : ℕ) (reason : Reason) : Type 0 where
  pub broken : ¬ MeetsCondition accepts q j reason
  pub lesser : (other : Reason) → reason_rank other < reason_rank reason → MeetsCondition accepts q j other

-- certificate j is the first that breaks a condition
pub record IsFirstBroken (accepts : Accepts) (q : Query) (j : ℕ) (reason : Reason) : Type 0 where
  pub served : IsServed q
  pub from : 1 ≤ j
  pub to : j ≤ count q
  pub least : IsLeastBroken accepts q j reason
  pub before : (i : ℕ) → 1 ≤ i → i < j → MeetsConditions accepts q i

-- the path itself is refused, whatever is in it
abbrev pub IsNotServedFor : Query → Reason → Type 0
IsNotServedFor q reason = ((count q ≡ 0) × (reason ≡ Empty)) ⊎ ((128 < count q) × (reason ≡ TooLong))

-- where a path fails first, and why; 0 stands for the path itself
abbrev pub IsFirstFailure : Accepts → Query → ℕ → Reason → Type 0
IsFirstFailure accepts q j reason = ((j ≡ 0) × IsNotServedFor q reason) ⊎ IsFirstBroken accepts q j reason

-- what a validation answers
abbrev pub IsOutcome : Accepts → Query → Outcome → Type 0
IsOutcome accepts q Good = IsValidPath accepts q
IsOutcome accepts q (Bad j reason) = IsFirstFailure accepts q j reason

-- laws: a path has one outcome

abbrev pub OutcomeIsOne : Type 0
OutcomeIsOne = (accepts : Accepts) (q : Query) (one other : Outcome) → IsOutcome accepts q one → IsOutcome accepts q other → one ≡ other
