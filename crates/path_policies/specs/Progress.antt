-- The processing of the policies of a path under way: what it stands for.
use Rattle.std.specs.Prelude.{◌≡◌, ◌<◌, ◌≤◌, ℕ, List, length}
use Rattle.std.specs.Borrow.{Bor}
use Rattle.std.specs.Global.{Vec}
use Rattle.path_policies.specs.declared.inhibitions.Inhibitions as code
use Rattle.path_policies.specs.declared.policy_set.PolicySet.{PolicySet}
use Rattle.path_policies.specs.Query.{PolicyQuery, count}
use Rattle.path_policies.specs.Seen.{inhibitions_in}
use Rattle.path_policies.specs.Steps.{inhibitions_behind}
use Rattle.path_policies.specs.Walk.{HasWalked}

-- certificates 1 to done have passed
pub record PolicyProgress : Type 0 where
  pub query : PolicyQuery
  pub done : ℕ

-- what is held then: what the counters say at each certificate, and what those that have passed leave
pub record Represents (q : PolicyQuery) (each : List code.Inhibitions) (firsts : List (Vec (Bor (List ℕ)))) (policies : PolicySet) : Type 0 where
  pub count_is : length each ≡ count q
  pub each_is : (i : ℕ) → i < count q → inhibitions_in each i ≡ inhibitions_behind q i
  pub within : length firsts ≤ count q
  pub walked : HasWalked q (length firsts) firsts policies
