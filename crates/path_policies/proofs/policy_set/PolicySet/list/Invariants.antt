use Rattle.std.proofs.Common.{◌≡◌, ℕ, Bor, List, map}
use Rattle.asn.specs.Oid.{oid_contents}
use Rattle.path_policies.proofs.policy_set.PolicySet.list.Given as goal

abbrev pub invariant-loop-policy : goal.invariant-loop-policy
invariant-loop-policy l =
    (goal.iterator-loop-policy).can_next l.policy-iterator
    × (goal.iterator-loop-policy).is_finite l.policy-iterator
    × (map oid_contents l.list.items ≡ map (λ (policy : Bor (Bor (List ℕ))). policy.now.now) l.yielded)
