-- When the certificates of a path are acceptable for their policies, and the sets of policies at the end (RFC 5280, 6.1.3 (f), 6.1.4 (a) and
-- 6.1.5 (g)).
use Rattle.std.specs.Prelude.{◌≡◌, ◌≢◌, ◌⊎◌, ◌<◌, ◌+◌, ◌-◌, ℕ, List, Contains}
use Rattle.path_policies.specs.Query.{PolicyQuery, any_policy, count}
use Rattle.path_policies.specs.Counters.{IsPolicyRequired, IsPolicyRequiredAtEnd}
use Rattle.path_policies.specs.Policies.{Maps, IsValidPolicy, IsValidPolicyAt, IsBelow, Lasts}

-- a policy is valid at certificate j, if one is required there (6.1.3 (f))
abbrev pub HasRequiredPolicy : PolicyQuery → ℕ → Type 0
HasRequiredPolicy q j = IsPolicyRequired q j → (policy : List ℕ) × IsValidPolicyAt q j policy

-- anyPolicy is mapped to nothing, and nothing to it (6.1.4 (a))
abbrev pub MapsNoAny : PolicyQuery → ℕ → Type 0
MapsNoAny q j = (issuer subject : List ℕ) → Maps q j issuer subject → (issuer ≢ any_policy) × (subject ≢ any_policy)

-- a policy of the authorities' domain, below anyPolicy, which has one of the last certificate below it (6.1.5 (g) (iii) 1)
pub record IsFirstNamed (q : PolicyQuery) (policy : List ℕ) : Type 0 where
  pub depth : ℕ
  pub above_end : depth < count q
  pub named : policy ≢ any_policy
  pub below : IsBelow q depth any_policy policy
  pub lasts : Lasts q (count q - (depth + 1)) (depth + 1) policy

-- the policies under which the authorities have issued: those, and anyPolicy if it is valid at the end
abbrev pub IsAuthorityPolicy : PolicyQuery → List ℕ → Type 0
IsAuthorityPolicy q policy = IsFirstNamed q policy ⊎ ((policy ≡ any_policy) × IsValidPolicy q (count q) any_policy)

-- the user takes every policy
abbrev pub TakesAny : PolicyQuery → Type 0
TakesAny q = Contains q.initial_policies any_policy

-- of these the user's, and each of the user's if anyPolicy is among them
abbrev pub IsUserPolicy : PolicyQuery → List ℕ → Type 0
IsUserPolicy q policy =
    (TakesAny q × IsAuthorityPolicy q policy)
    ⊎ ((¬ TakesAny q × Contains q.initial_policies policy)
    × (IsAuthorityPolicy q policy ⊎ IsAuthorityPolicy q any_policy))

-- there is one, if a policy is required at the end
abbrev pub HasUserPolicy : PolicyQuery → Type 0
HasUserPolicy q = IsPolicyRequiredAtEnd q → (policy : List ℕ) × IsUserPolicy q policy
