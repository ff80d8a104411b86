-- What earlier certificates say of later ones: the counters explicit_policy, policy_mapping and inhibit_anyPolicy (RFC 5280, 6.1.2 (d) to (f),
-- 6.1.4 (h) to (j)), each told by what has made it 0.
use Rattle.std.specs.Prelude.{◌≡◌, ◌⊎◌, ◌<◌, ◌≤◌, ◌+◌, ◌-◌, ℕ, true, not, Option, Some, count_by, take, drop}
use Rattle.cert_policies.specs.PolicyExtensions.{PolicyExtensions}
use Rattle.path_policies.specs.Query.{PolicyQuery, count, certificate_numbered}

-- how many of the certificates i + 1 to j - 1 are not self-issued
abbrev pub others_between : PolicyQuery → ℕ → ℕ → ℕ
others_between q i j = count_by (λ c. not c.self_issued) (drop i (take (j - 1) q.certificates))

-- some certificate i before j says this number, and so many certificates that are not self-issued stand between them, or more by `others`
pub record RunsOut (says : PolicyExtensions → Option ℕ) (q : PolicyQuery) (j : ℕ) (others : ℕ) : Type 0 where
  pub i : ℕ
  pub number : ℕ
  pub from : 1 ≤ i
  pub before : i < j
  pub says_is : says (certificate_numbered q i).extensions ≡ Some number
  pub reached : number ≤ others_between q i j + others

-- policy_mapping is 0 at certificate j
abbrev pub IsMappingInhibited : PolicyQuery → ℕ → Type 0
IsMappingInhibited q j = (q.inhibit_policy_mapping ≡ true) ⊎ RunsOut (λ e. e.inhibit_policy_mapping) q j 0

-- inhibit_anyPolicy is 0 at certificate j
abbrev pub IsAnyInhibited : PolicyQuery → ℕ → Type 0
IsAnyInhibited q j = (q.inhibit_any_policy ≡ true) ⊎ RunsOut (λ e. e.inhibit_any_policy) q j 0

-- explicit_policy is 0 at certificate j
abbrev pub IsPolicyRequired : PolicyQuery → ℕ → Type 0
IsPolicyRequired q j = (q.require_explicit_policy ≡ true) ⊎ RunsOut (λ e. e.require_explicit_policy) q j 0

-- and at the end: it is counted down once more, or the last certificate itself says 0 (6.1.5 (a) and (b))
abbrev pub IsPolicyRequiredAtEnd : PolicyQuery → Type 0
IsPolicyRequiredAtEnd q =
    (q.require_explicit_policy ≡ true)
    ⊎ (RunsOut (λ e. e.require_explicit_policy) q (count q) 1
    ⊎ ((certificate_numbered q (count q)).extensions.require_explicit_policy ≡ Some 0))
