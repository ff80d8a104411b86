use Rattle.std.proofs.Common.{◌≡◌, ◌<◌, ℕ, length}
use Rattle.path_policies.specs.Seen.{seen_query, inhibitions_in}
use Rattle.path_policies.specs.Steps.{inhibitions_behind, left_behind}
use Rattle.path_policies.proofs.inhibitions.inhibitions_of.Given as goal

abbrev pub invariant-loop-index : goal.invariant-loop-index
invariant-loop-index l =
    (length l.each.items ≡ l.index)
    × ((i : ℕ) → i < l.index → inhibitions_in l.each.items i ≡ inhibitions_behind (seen_query l.query) i)
    × (l.counters.explicit_policy.left ≡ left_behind (λ e. e.require_explicit_policy) (seen_query l.query) l.index)
    × (l.counters.policy_mapping.left ≡ left_behind (λ e. e.inhibit_policy_mapping) (seen_query l.query) l.index)
    × (l.counters.inhibit_any_policy.left ≡ left_behind (λ e. e.inhibit_any_policy) (seen_query l.query) l.index)
