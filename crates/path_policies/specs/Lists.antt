-- Lists of policies and of mappings, by which policies are in them.
use Rattle.std.specs.Prelude.{ℕ, Bool, true, false, not, ◌&&◌, ◌||◌, List, map}
use Rattle.std.specs.List.{list_any}
use Rattle.std.specs.List.Sorted.{IsStrictlySortedBy}
use Rattle.std.specs.Ordering.{nat_cmp}
use Rattle.std.specs.Cmp.Lexicographic.{slice_cmp}
use Rattle.std.specs.Str.{bytes_eq}
use Rattle.std.specs.Borrow.{Bor}
use Rattle.asn.specs.Oid.{oid_contents}
use Rattle.asn.specs.declared.oid.Oid.{Oid}
use Rattle.cert_policies.specs.declared.mappings.PolicyMapping.{PolicyMapping}
use Rattle.path_policies.specs.Query.{any_policy}

-- two answers are the same
abbrev pub same : Bool → Bool → Bool
same true b = b
same false b = not b

-- the policy is one of them
abbrev pub is_listed : List (Bor (List ℕ)) → List ℕ → Bool
is_listed policies policy = list_any (λ listed. bytes_eq listed.now policy) policies

-- it is one of them, and goes on
abbrev pub is_lasting : List (Bor (List ℕ)) → (List ℕ → Bool) → List ℕ → Bool
is_lasting policies lasts policy = list_any (λ listed. lasts listed.now && bytes_eq listed.now policy) policies

abbrev pub is_among : List Oid → List ℕ → Bool
is_among policies policy = list_any (λ stated. bytes_eq (oid_contents stated) policy) policies

-- it is one of them that passes a test, as not to be anyPolicy, and to be in a set or not
abbrev pub is_picked : List Oid → (List ℕ → Bool) → List ℕ → Bool
is_picked policies test policy = list_any (λ stated. test (oid_contents stated) && bytes_eq (oid_contents stated) policy) policies

abbrev pub is_named_in : Bool → (List ℕ → Bool) → List ℕ → Bool
is_named_in wanted set policy = not (bytes_eq policy any_policy) && same wanted (set policy)

-- one of the mappings is from the policy
abbrev pub is_mapped_by : List PolicyMapping → List ℕ → Bool
is_mapped_by mappings policy = list_any (λ m. bytes_eq (oid_contents m.issuer_domain_policy) policy) mappings

abbrev pub is_any_mapped_by : List PolicyMapping → Bool
is_any_mapped_by mappings =
    list_any (λ m. bytes_eq (oid_contents m.issuer_domain_policy) any_policy || bytes_eq (oid_contents m.subject_domain_policy) any_policy) mappings

-- the same of one that passes a test
abbrev pub is_picked_issuer : List PolicyMapping → (List ℕ → Bool) → List ℕ → Bool
is_picked_issuer mappings test policy =
    list_any (λ m. test (oid_contents m.issuer_domain_policy) && bytes_eq (oid_contents m.issuer_domain_policy) policy) mappings

-- one of the mappings is to the policy, and from one of those that count
abbrev pub is_subject_of : List PolicyMapping → (List ℕ → Bool) → List ℕ → Bool
is_subject_of mappings valid policy =
    list_any (λ m. valid (oid_contents m.issuer_domain_policy) && bytes_eq (oid_contents m.subject_domain_policy) policy) mappings

-- one of the mappings is from the policy, and to one of those that last
abbrev pub is_issuer_of : List PolicyMapping → (List ℕ → Bool) → List ℕ → Bool
is_issuer_of mappings lasts policy =
    list_any (λ m. lasts (oid_contents m.subject_domain_policy) && bytes_eq (oid_contents m.issuer_domain_policy) policy) mappings

-- no policy twice, and in ascending order of their octets
abbrev pub AreAscending : List Oid → Type 0
AreAscending policies = IsStrictlySortedBy (slice_cmp nat_cmp) (map oid_contents policies)
