-- What the certificates do to the policies, one after the other, and which is the first that is not acceptable.
use Rattle.std.specs.Prelude.{◌≡◌, ◌<◌, ◌+◌, ◌==◌, ◌&&◌, ◌||◌, ℕ, Bool, true, false, not, List, length, slice_index_or, if◌then◌else◌}
use Rattle.std.specs.Borrow.{Bor}
use Rattle.path_policies.specs.declared.reason.PolicyReason.{PolicyReason}
use Rattle.path_policies.specs.declared.reason.PolicyReason.TheVariants as R
use Rattle.path_policies.specs.declared.walk.Step.{Step}
use Rattle.path_policies.specs.declared.walk.Step.TheVariants as step
use Rattle.path_policies.specs.declared.walk.Walk.{Walk}
use Rattle.path_policies.specs.declared.walk.Walk.TheVariants as walk
use Rattle.path_policies.specs.declared.policy_set.PolicySet.{PolicySet}
use Rattle.std.specs.Global.{Vec}
use Rattle.path_policies.specs.Sets.{has}
use Rattle.path_policies.specs.Query.{PolicyCertificate, PolicyQuery, count, certificate_numbered}
use Rattle.path_policies.specs.Lists.{is_listed}
use Rattle.path_policies.specs.Steps.{Inhibitions, followed, mapped, is_first, is_first_mapped, maps_any, inhibitions_behind, valid_behind, expected_behind, first_behind}

-- no policy is valid, one is, if one is required
abbrev pub LacksPolicy : Bool → (List ℕ → Bool) → Type 0
LacksPolicy required valid = (required ≡ true) × ((policy : List ℕ) → valid policy ≡ false)

abbrev pub HasPolicy : Bool → (List ℕ → Bool) → Type 0
HasPolicy required valid = required ≡ true → (policy : List ℕ) × (valid policy ≡ true)

-- those that come right below anyPolicy, by both ways
abbrev pub first_below : PolicyCertificate → Inhibitions → Bool → (List ℕ → Bool) → List ℕ → Bool
first_below c inhibitions is_last expected policy =
    is_first c expected policy
    || (not is_last && is_first_mapped c inhibitions.mapping_inhibited (followed c inhibitions.allows_any expected) policy)

abbrev pub expected_below : PolicyCertificate → Inhibitions → Bool → (List ℕ → Bool) → List ℕ → Bool
expected_below c inhibitions is_last expected policy =
    if is_last then followed c inhibitions.allows_any expected policy
    else mapped c inhibitions.mapping_inhibited (followed c inhibitions.allows_any expected) policy

pub record Passes (c : PolicyCertificate) (inhibitions : Inhibitions) (is_last : Bool) (old new : List ℕ → Bool) (first : List (Bor (List ℕ))) : Type 0 where
  pub has_policy : HasPolicy inhibitions.policy_required (followed c inhibitions.allows_any old)
  pub maps_none : is_last ≡ false → maps_any c ≡ false
  pub expected_is : (policy : List ℕ) → new policy ≡ expected_below c inhibitions is_last old policy
  pub first_is : (policy : List ℕ) → is_listed first policy ≡ first_below c inhibitions is_last old policy

abbrev pub TakesStep : PolicyCertificate → Inhibitions → Bool → (List ℕ → Bool) → (List ℕ → Bool) → Step → Type 0
TakesStep c inhibitions is_last old new (step.Passed first) = Passes c inhibitions is_last old new first.items
TakesStep c inhibitions is_last old new (step.Failed R.NoValidPolicy) = LacksPolicy inhibitions.policy_required (followed c inhibitions.allows_any old)
TakesStep c inhibitions is_last old new (step.Failed R.AnyPolicyMapped) =
    HasPolicy inhibitions.policy_required (followed c inhibitions.allows_any old) × (is_last ≡ false) × (maps_any c ≡ true)
TakesStep c inhibitions is_last old new (step.Failed R.NoUserPolicy) = ⊥

-- certificate i + 1 is acceptable so far: a policy is valid if one is required, and anyPolicy is not mapped
pub record PassesBehind (q : PolicyQuery) (i : ℕ) : Type 0 where
  pub has_policy : HasPolicy (inhibitions_behind q i).policy_required (valid_behind q i)
  pub maps_none : (i + 1 == count q) ≡ false → maps_any (certificate_numbered q (i + 1)) ≡ false

-- so are the first ones
abbrev pub PassUpTo : PolicyQuery → ℕ → Type 0
PassUpTo q i = (k : ℕ) → k < i → PassesBehind q k

-- of each of the first certificates the policies that come right below anyPolicy
pub record AreFirsts (q : PolicyQuery) (i : ℕ) (firsts : List (Vec (Bor (List ℕ)))) : Type 0 where
  pub count_is : length firsts ≡ i
  pub each : (k : ℕ) (d : Vec (Bor (List ℕ))) (policy : List ℕ) → k < i → is_listed (slice_index_or firsts k d).items policy ≡ first_behind q k policy

-- the first certificates have passed, and this is what they leave
pub record HasWalked (q : PolicyQuery) (i : ℕ) (firsts : List (Vec (Bor (List ℕ)))) (policies : PolicySet) : Type 0 where
  pub pass : PassUpTo q i
  pub firsts_are : AreFirsts q i firsts
  pub expected_is : (policy : List ℕ) → has policies policy ≡ expected_behind q i policy

-- all pass, or this one is the first that does not, and why
abbrev pub FailsBehind : PolicyQuery → ℕ → PolicyReason → Type 0
FailsBehind q i R.NoValidPolicy = LacksPolicy (inhibitions_behind q i).policy_required (valid_behind q i)
FailsBehind q i R.AnyPolicyMapped =
    HasPolicy (inhibitions_behind q i).policy_required (valid_behind q i)
    × ((i + 1 == count q) ≡ false) × (maps_any (certificate_numbered q (i + 1)) ≡ true)
FailsBehind q i R.NoUserPolicy = ⊥

pub record FailsFirst (q : PolicyQuery) (number : ℕ) (reason : PolicyReason) : Type 0 where
  pub i : ℕ
  pub number_is : number ≡ i + 1
  pub below : i < count q
  pub pass : PassUpTo q i
  pub fails : FailsBehind q i reason

abbrev pub Walks : PolicyQuery → Walk → Type 0
Walks q (walk.Ended firsts policies) = HasWalked q (count q) firsts.items policies
Walks q (walk.Failed number reason) = FailsFirst q number reason
