-- That the definitions of Counters and Policies say what the counters and the valid_policy_tree of RFC 5280 say.
use Rattle.std.specs.Prelude.{◌≡◌, ◌≢◌, ◌↔◌, ◌⊎◌, ◌≤◌, ◌<◌, ◌+◌, ◌-◌, ℕ, List, [], ◌∷◌, length, Option, None, MatchOption, Contains}
use Rattle.path_policies.specs.Query.{PolicyQuery, any_policy, count}
use Rattle.path_policies.specs.Counters.{IsMappingInhibited, IsAnyInhibited, IsPolicyRequired, IsPolicyRequiredAtEnd}
use Rattle.path_policies.specs.Policies.{IsValidPolicyAt, IsBelow, Lasts}
use Rattle.path_policies.specs.Acceptance.{MapsNoAny, HasRequiredPolicy, IsFirstNamed, IsUserPolicy, HasUserPolicy}
use Rattle.path_policies.specs.Intersection.{intersection}
use Rattle.path_policies.specs.Nodes.{PolicyTree, valid_policy, children}
use Rattle.path_policies.specs.Tree.{explicit_policy, policy_mapping, inhibit_any_policy, explicit_policy_at_end, tree_after, tree_at}

-- a counter is 0 at certificate j exactly if the definition says so
abbrev pub ExplicitPolicyIsExact : Type 0
ExplicitPolicyIsExact =
    (q : PolicyQuery) (j : ℕ) → 1 ≤ j → j ≤ count q → (explicit_policy q j ≡ 0) ↔ IsPolicyRequired q j

abbrev pub PolicyMappingIsExact : Type 0
PolicyMappingIsExact =
    (q : PolicyQuery) (j : ℕ) → 1 ≤ j → j ≤ count q → (policy_mapping q j ≡ 0) ↔ IsMappingInhibited q j

abbrev pub InhibitAnyPolicyIsExact : Type 0
InhibitAnyPolicyIsExact =
    (q : PolicyQuery) (j : ℕ) → 1 ≤ j → j ≤ count q → (inhibit_any_policy q j ≡ 0) ↔ IsAnyInhibited q j

-- and explicit_policy at the end of a path that has certificates
abbrev pub ExplicitPolicyIsExactAtEnd : Type 0
ExplicitPolicyIsExactAtEnd = (q : PolicyQuery) → 1 ≤ count q → (explicit_policy_at_end q ≡ 0) ↔ IsPolicyRequiredAtEnd q

-- a node of the tree that stands below nodes with these policies, from its parent up to the root; its depth is how many they are
abbrev pub IsNodeOf : PolicyTree → List (List ℕ) → PolicyTree → Type 0
IsNodeOf tree [] u = tree ≡ u
IsNodeOf tree (policy ∷ above) u =
    (parent : PolicyTree) × IsNodeOf tree above parent × (valid_policy parent ≡ policy) × Contains (children parent) u

abbrev pub IsNode : Option PolicyTree → List (List ℕ) → PolicyTree → Type 0
IsNode tree above u = MatchOption tree ⊥ (λ t. IsNodeOf t above u)

-- the tree has a branch with these valid policies, from a node up to the root
abbrev pub HasBranch : Option PolicyTree → List (List ℕ) → Type 0
HasBranch tree [] = ⊥
HasBranch tree (policy ∷ above) = (u : PolicyTree) × IsNode tree above u × (valid_policy u ≡ policy)

-- policies each of which is below the next one, up to anyPolicy at depth 0
abbrev pub IsTrace : PolicyQuery → List (List ℕ) → Type 0
IsTrace q [] = ⊥
IsTrace q (policy ∷ []) = policy ≡ any_policy
IsTrace q (policy ∷ parent ∷ above) = IsTrace q (parent ∷ above) × IsBelow q (length above) parent policy

-- no certificate up to this one maps anyPolicy, or maps to it (6.1.4 (a))
abbrev pub MapNoAny : PolicyQuery → ℕ → Type 0
MapNoAny q i = (k : ℕ) → 1 ≤ k → k ≤ i → MapsNoAny q k

-- after certificate i the branches from depth i up to the root are the traces
abbrev pub BranchesAreTraces : Type 0
BranchesAreTraces =
    (q : PolicyQuery) (i : ℕ) → i ≤ count q → MapNoAny q i → (policies : List (List ℕ)) → length policies ≡ i + 1
    → HasBranch (tree_after q i) policies ↔ IsTrace q policies

-- at 6.1.3 (f) of certificate j the tree is NULL exactly if no policy is valid there
abbrev pub NullIsNoPolicy : Type 0
NullIsNoPolicy =
    (q : PolicyQuery) (j : ℕ) → 1 ≤ j → j ≤ count q → MapNoAny q (j - 1)
    → (tree_at q j ≡ None) ↔ ((policy : List ℕ) → ¬ IsValidPolicyAt q j policy)

-- 6.1.3 (f): explicit_policy is greater than 0 or the tree is not NULL, exactly if a policy is valid there or none is required
abbrev pub RequiredPolicyIsExact : Type 0
RequiredPolicyIsExact =
    (q : PolicyQuery) (j : ℕ) → 1 ≤ j → j ≤ count q → MapNoAny q (j - 1)
    → ((0 < explicit_policy q j) ⊎ (tree_at q j ≢ None)) ↔ HasRequiredPolicy q j

-- after the last certificate a branch from any node up to the root is a trace, below whose policy the last certificate has one
abbrev pub BranchesLast : Type 0
BranchesLast =
    (q : PolicyQuery) → MapNoAny q (count q) → (policy : List ℕ) (above : List (List ℕ)) → length above ≤ count q
    → HasBranch (tree_after q (count q)) (policy ∷ above)
    ↔ (IsTrace q (policy ∷ above) × Lasts q (count q - length above) (length above) policy)

-- the policies below anyPolicy are those of the nodes whose parent has anyPolicy
abbrev pub FirstNamedAreNodes : Type 0
FirstNamedAreNodes =
    (q : PolicyQuery) → MapNoAny q (count q) → (policy : List ℕ)
    → IsFirstNamed q policy
    ↔ ((policy ≢ any_policy)
    × ((above : List (List ℕ)) × (length above < count q) × HasBranch (tree_after q (count q)) (policy ∷ any_policy ∷ above)))

-- the intersection of the tree with the user's policies is not NULL exactly if there is a policy of the user
abbrev pub IntersectionIsExact : Type 0
IntersectionIsExact =
    (q : PolicyQuery) → 1 ≤ count q → MapNoAny q (count q)
    → (intersection q (tree_after q (count q)) ≢ None) ↔ ((policy : List ℕ) × IsUserPolicy q policy)

-- the processing succeeds at its end, as explicit_policy is greater than 0 or the tree is not NULL, exactly if the definition says so
abbrev pub SuccessIsExact : Type 0
SuccessIsExact =
    (q : PolicyQuery) → 1 ≤ count q → MapNoAny q (count q)
    → ((0 < explicit_policy_at_end q) ⊎ (intersection q (tree_after q (count q)) ≢ None)) ↔ HasUserPolicy q
