use Rattle.std.proofs.Common.{◌≡◌, ◌-◌, map}
use Rattle.path_policies.specs.Seen.{seen_policy_certificate}
use Rattle.relying_policies.specs.SearchPolicies.{policies_down_to_target, seen_search_policies}
use Rattle.relying_policies.proofs.Downward.{left_at, with_left}
use Rattle.relying_policies.proofs.policies.certificates_of.Given as goal

abbrev pub invariant-loop-index : goal.invariant-loop-index
invariant-loop-index l =
    with_left (map seen_policy_certificate l.path.items) (seen_search_policies l.policies).target
    (left_at (seen_search_policies l.policies) l.above (l.count - l.index))
    ≡ policies_down_to_target (seen_search_policies l.policies) l.above
