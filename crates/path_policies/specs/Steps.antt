-- The processing of policies by sets of policies, one certificate after the other: a set tells of each policy whether it is in it.
use Rattle.std.specs.Prelude.{◌==◌, ◌&&◌, ◌||◌, ◌+◌, ◌-◌, ℕ, zero, suc, Bool, true, false, not, List, Option, Some, None, min, nat_le, if◌then◌else◌}
use Rattle.std.specs.List.{list_any}
use Rattle.std.specs.Str.{bytes_eq}
use Rattle.cert_policies.specs.PolicyExtensions.{PolicyMapping, PolicyExtensions}
use Rattle.path_policies.specs.Query.{PolicyCertificate, PolicyQuery, any_policy, count, certificate_numbered}

-- what a certificate says

abbrev pub is_stated : Option (List (List ℕ)) → List ℕ → Bool
is_stated None policy = false
is_stated (Some policies) policy = list_any (λ stated. bytes_eq stated policy) policies

abbrev pub states : PolicyCertificate → List ℕ → Bool
states c policy = is_stated c.extensions.policies policy

abbrev pub names : PolicyCertificate → List ℕ → Bool
names c policy = states c policy && not (bytes_eq policy any_policy)

abbrev pub maps : PolicyCertificate → List ℕ → Bool
maps c policy = list_any (λ m. bytes_eq m.issuer_domain_policy policy) c.extensions.mappings

abbrev pub maps_any : PolicyCertificate → Bool
maps_any c = list_any (λ m. bytes_eq m.issuer_domain_policy any_policy || bytes_eq m.subject_domain_policy any_policy) c.extensions.mappings

-- the counters: how many more certificates that are not self-issued may come, behind so many certificates, before one is 0

abbrev pub lesser : Option ℕ → Option ℕ → Option ℕ
lesser left None = left
lesser None (Some number) = Some number
lesser (Some left) (Some number) = Some (min left number)

abbrev pub counted : Option ℕ → Bool → Option ℕ
counted None self_issued = None
counted (Some left) self_issued = if self_issued then Some left else Some (left - 1)

abbrev pub left_behind : (PolicyExtensions → Option ℕ) → PolicyQuery → ℕ → Option ℕ
left_behind says q zero = None
left_behind says q (suc i) = lesser (counted (left_behind says q i) (certificate_numbered q (i + 1)).self_issued) (says (certificate_numbered q (i + 1)).extensions)

-- no more than so many may come
abbrev pub is_within : Option ℕ → ℕ → Bool
is_within None most = false
is_within (Some left) most = nat_le left most

-- what the counters say at a certificate
pub record Inhibitions : Type 0 where
  -- anyPolicy is stated and counts
  pub allows_any : Bool
  pub mapping_inhibited : Bool
  pub policy_required : Bool
  -- a policy is required at the end, if this is the last certificate
  pub required_behind : Bool

abbrev pub inhibitions_at : PolicyQuery → PolicyCertificate → Bool → Option ℕ → Option ℕ → Option ℕ → Inhibitions
inhibitions_at q c is_last explicit mapping any = record {
  allows_any = states c any_policy && (not (q.inhibit_any_policy || is_within any 0) || (not is_last && c.self_issued));
  mapping_inhibited = q.inhibit_policy_mapping || is_within mapping 0;
  policy_required = q.require_explicit_policy || is_within explicit 0;
  required_behind = q.require_explicit_policy || (is_within explicit 1 || is_within c.extensions.require_explicit_policy 0);
}

-- of the certificate behind i others
abbrev pub inhibitions_behind : PolicyQuery → ℕ → Inhibitions
inhibitions_behind q i = inhibitions_at q (certificate_numbered q (i + 1)) (i + 1 == count q)
    (left_behind (λ e. e.require_explicit_policy) q i)
    (left_behind (λ e. e.inhibit_policy_mapping) q i)
    (left_behind (λ e. e.inhibit_any_policy) q i)

-- the policies that a certificate has, of those expected (6.1.3 (d)); and those of them whose parent is anyPolicy, as none expects them
abbrev pub followed : PolicyCertificate → Bool → (List ℕ → Bool) → List ℕ → Bool
followed c allows_any expected policy = (names c policy && (expected policy || expected any_policy)) || (allows_any && expected policy)

abbrev pub is_first : PolicyCertificate → (List ℕ → Bool) → List ℕ → Bool
is_first c expected policy = names c policy && (not (expected policy) && expected any_policy)

-- the policies that are expected below it, of those that it has, its mappings done (6.1.4 (b)); and the mapped ones whose parent is anyPolicy
abbrev pub counts : (List ℕ → Bool) → PolicyMapping → Bool
counts valid m = valid m.issuer_domain_policy || valid any_policy

abbrev pub mapped : PolicyCertificate → Bool → (List ℕ → Bool) → List ℕ → Bool
mapped c inhibited valid policy =
    (valid policy && not (maps c policy))
    || (not inhibited && list_any (λ m. counts valid m && bytes_eq m.subject_domain_policy policy) c.extensions.mappings)

abbrev pub is_first_mapped : PolicyCertificate → Bool → (List ℕ → Bool) → List ℕ → Bool
is_first_mapped c inhibited valid policy = not inhibited && (maps c policy && (not (valid policy) && valid any_policy))

-- the policies expected behind i certificates, and those that certificate i + 1 has
abbrev pub followed_behind : PolicyQuery → ℕ → (List ℕ → Bool) → List ℕ → Bool
followed_behind q i expected policy = followed (certificate_numbered q (i + 1)) (inhibitions_behind q i).allows_any expected policy

abbrev pub mapped_behind : PolicyQuery → ℕ → (List ℕ → Bool) → List ℕ → Bool
mapped_behind q i valid policy =
    if i + 1 == count q then valid policy
    else mapped (certificate_numbered q (i + 1)) (inhibitions_behind q i).mapping_inhibited valid policy

abbrev pub expected_behind : PolicyQuery → ℕ → List ℕ → Bool
expected_behind q zero policy = bytes_eq policy any_policy
expected_behind q (suc i) policy = mapped_behind q i (followed_behind q i (expected_behind q i)) policy

abbrev pub valid_behind : PolicyQuery → ℕ → List ℕ → Bool
valid_behind q i policy = followed_behind q i (expected_behind q i) policy

-- those among them that come right below anyPolicy
abbrev pub first_behind : PolicyQuery → ℕ → List ℕ → Bool
first_behind q i policy =
    is_first (certificate_numbered q (i + 1)) (expected_behind q i) policy
    || (not (i + 1 == count q)
    && is_first_mapped (certificate_numbered q (i + 1)) (inhibitions_behind q i).mapping_inhibited (valid_behind q i) policy)

-- From the end upward: of the policies that a certificate has, those that go on to the end, by those expected below it that do; and of those
-- expected above it
abbrev pub goes_on : PolicyCertificate → Bool → (List ℕ → Bool) → List ℕ → Bool
goes_on c inhibited lasts policy =
    if maps c policy then not inhibited && list_any (λ m. lasts m.subject_domain_policy && bytes_eq m.issuer_domain_policy policy) c.extensions.mappings
    else lasts policy

abbrev pub goes_down : PolicyCertificate → Bool → (List ℕ → Bool) → List ℕ → Bool
goes_down c allows_any lasts policy = (names c policy || allows_any) && lasts policy

-- the policy, if certificate n - more has it, or if it is expected so many certificates above the end, has one of the last certificate below it
abbrev pub goes_on_above : PolicyQuery → ℕ → (List ℕ → Bool) → List ℕ → Bool
goes_on_above q more lasts policy =
    if more == 0 then true
    else goes_on (certificate_numbered q (count q - more)) (inhibitions_behind q (count q - (more + 1))).mapping_inhibited lasts policy

abbrev pub lasts_above : PolicyQuery → ℕ → List ℕ → Bool
lasts_above q zero policy = true
lasts_above q (suc more) policy =
    goes_down (certificate_numbered q (count q - more)) (inhibitions_behind q (count q - (more + 1))).allows_any
    (goes_on_above q more (lasts_above q more)) policy

-- the policies right below anyPolicy at one of so many certificates from the end, which have one of the last certificate below them
abbrev pub named_above : PolicyQuery → ℕ → List ℕ → Bool
named_above q zero policy = false
named_above q (suc more) policy =
    (first_behind q (count q - (more + 1)) policy && goes_on_above q more (lasts_above q more) policy) || named_above q more policy

-- a policy is required at the end (6.1.5 (a) and (b))
abbrev pub required_at_end : PolicyQuery → Bool
required_at_end q = if count q == 0 then q.require_explicit_policy else (inhibitions_behind q (count q - 1)).required_behind
