-- Which policies are valid at which certificate of a path, and for what: RFC 5280, 6.1.2 (a), 6.1.3 (d) and (e), 6.1.4 (b), without a tree.
-- Where the RFC has nodes at depth i with a valid_policy and an expected_policy_set, here are policies at depth i: two nodes of one depth
-- that have the same policy expect the same.
use Rattle.std.specs.Prelude.{◌≡◌, ◌≢◌, ◌⊎◌, ◌<◌, ◌+◌, ◌-◌, ℕ, zero, suc, List, true, MatchOption, Contains}
use Rattle.path_policies.specs.Query.{PolicyQuery, any_policy, count, certificate_numbered}
use Rattle.path_policies.specs.Counters.{IsMappingInhibited, IsAnyInhibited}

-- certificatePolicies of certificate i has the policy
abbrev pub States : PolicyQuery → ℕ → List ℕ → Type 0
States q i policy = MatchOption (certificate_numbered q i).extensions.policies ⊥ (λ policies. Contains policies policy)

-- the same of a policy that is not anyPolicy
abbrev pub Names : PolicyQuery → ℕ → List ℕ → Type 0
Names q i policy = States q i policy × (policy ≢ any_policy)

-- certificate i states anyPolicy, and that counts there (6.1.3 (d) (2))
abbrev pub AllowsAny : PolicyQuery → ℕ → Type 0
AllowsAny q i =
    States q i any_policy
    × (¬ IsAnyInhibited q i ⊎ ((i < count q) × ((certificate_numbered q i).self_issued ≡ true)))

-- certificate i, which is not the last, maps the first policy to the second (6.1.4 (b))
abbrev pub Maps : PolicyQuery → ℕ → List ℕ → List ℕ → Type 0
Maps q i issuer subject =
    (i < count q)
    × Contains (certificate_numbered q i).extensions.mappings (record { issuer_domain_policy = issuer; subject_domain_policy = subject })

abbrev pub IsMapped : PolicyQuery → ℕ → List ℕ → Type 0
IsMapped q i issuer = (subject : List ℕ) × Maps q i issuer subject

-- below certificate i the first policy stands for the second: it is mapped to it, or it is the same and not mapped. This is the
-- expected_policy_set of the nodes of the first.
abbrev pub Expects : PolicyQuery → ℕ → List ℕ → List ℕ → Type 0
Expects q i policy expected = Maps q i policy expected ⊎ ((expected ≡ policy) × ¬ IsMapped q i policy)

-- one of the policies at depth i, which are those that are Valid, expects this one
abbrev pub IsExpectedOf : PolicyQuery → ℕ → (List ℕ → Type 0) → List ℕ → Type 0
IsExpectedOf q i Valid expected = (policy : List ℕ) × Valid policy × Expects q i policy expected

-- Below a parent, a policy at depth i that is Valid, certificate i + 1 has this policy (6.1.3 (d)):
-- it names it and the parent expects it (1) (i), or it names it, no policy expects it, and the parent is anyPolicy (1) (ii), or it does not
-- name it, allows any, and the parent expects it (2)
abbrev pub Follows : PolicyQuery → ℕ → (List ℕ → Type 0) → List ℕ → List ℕ → Type 0
Follows q i Valid parent policy =
    (Names q (i + 1) policy × Expects q i parent policy)
    ⊎ ((Names q (i + 1) policy × (¬ IsExpectedOf q i Valid policy × (parent ≡ any_policy)))
    ⊎ (¬ Names q (i + 1) policy × (AllowsAny q (i + 1) × Expects q i parent policy)))

-- some policy at depth i is its parent
abbrev pub IsFollowing : PolicyQuery → ℕ → (List ℕ → Type 0) → List ℕ → Type 0
IsFollowing q i Valid policy = (parent : List ℕ) × Valid parent × Follows q i Valid parent policy

-- What the mappings of certificate i + 1 leave of that (6.1.4 (b)): where mapping is inhibited, mapped policies go (2); else a mapped policy
-- that is not there comes below anyPolicy, if anyPolicy is there (1)
abbrev pub IsParent : PolicyQuery → ℕ → (List ℕ → Type 0) → List ℕ → List ℕ → Type 0
IsParent q i Valid parent policy =
    (Follows q i Valid parent policy × (IsMapped q (i + 1) policy → ¬ IsMappingInhibited q (i + 1)))
    ⊎ ((IsMapped q (i + 1) policy × ¬ IsMappingInhibited q (i + 1))
    × ((¬ IsFollowing q i Valid policy × IsFollowing q i Valid any_policy) × (parent ≡ any_policy)))

-- the policies at depth i, the mappings of certificate i done
abbrev pub IsValidPolicy : PolicyQuery → ℕ → List ℕ → Type 0
IsValidPolicy q zero policy = policy ≡ any_policy
IsValidPolicy q (suc i) policy = (parent : List ℕ) × IsValidPolicy q i parent × IsParent q i (IsValidPolicy q i) parent policy

-- the same before certificate j's own mappings (6.1.3 (f))
abbrev pub IsValidPolicyAt : PolicyQuery → ℕ → List ℕ → Type 0
IsValidPolicyAt q j policy = IsFollowing q (j - 1) (IsValidPolicy q (j - 1)) policy

-- the policy at depth i + 1 is below that one at depth i
abbrev pub IsBelow : PolicyQuery → ℕ → List ℕ → List ℕ → Type 0
IsBelow q i parent policy = IsValidPolicy q i parent × IsParent q i (IsValidPolicy q i) parent policy

-- a policy at depth i has one of the last certificate below it, so many certificates down
abbrev pub Lasts : PolicyQuery → ℕ → ℕ → List ℕ → Type 0
Lasts q zero i policy = i ≡ count q
Lasts q (suc more) i policy = (below : List ℕ) × IsBelow q i policy below × Lasts q more (i + 1) below
