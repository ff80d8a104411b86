use Rattle.std.proofs.Common.{◌≡◌, ◌++◌, List, ℕ, drop, length, map}
use Rattle.path.specs.Reading.{texts_of}
use Rattle.capi_values.proofs.policies.lengths_of.Given as goal

abbrev pub invariant-loop-policy : goal.invariant-loop-policy
invariant-loop-policy l =
    l.lengths.items ++ map (λ (policy : List ℕ). length policy) (texts_of (drop l.policy-index l.all)) ≡ map (λ (policy : List ℕ). length policy) (texts_of l.all)
