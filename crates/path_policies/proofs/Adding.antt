-- How the calls that turn policies add up to what a certificate has, and to what is expected below it.
use Rattle.std.proofs.Common.{◌≡◌, ℕ, Bool, true, false, not, ◌&&◌, ◌||◌, List, map, refl, if◌then◌else◌}
use Rattle.std.specs.List.{list_any}
use Rattle.std.specs.Str.{bytes_eq}
use Rattle.asn.specs.Oid.{oid_contents}
use Rattle.asn.specs.declared.oid.Oid.{Oid}
use Rattle.cert_policies.specs.PolicyExtensions.{seen_mapping}
use Rattle.cert_policies.specs.declared.mappings.PolicyMapping.{PolicyMapping}
use Rattle.path_policies.specs.Query.{any_policy}
use Rattle.path_policies.specs.Lists.{is_among, is_picked, is_picked_issuer, is_named_in, is_mapped_by, is_subject_of}
use Rattle.path_policies.specs.Steps.{counts}
use Rattle.path_policies.proofs.Picks.{picked, any_of_map}

followed_bools : (s n e a allows : Bool) → (((s && (n && not e)) && a) || (if allows then e else (s && (n && e)))) ≡ (((s && n) && (e || a)) || (allows && e))
followed_bools true true true true true = refl
followed_bools true true true true false = refl
followed_bools true true true false true = refl
followed_bools true true true false false = refl
followed_bools true true false true true = refl
followed_bools true true false true false = refl
followed_bools true true false false true = refl
followed_bools true true false false false = refl
followed_bools true false true a true = refl
followed_bools true false true a false = refl
followed_bools true false false a true = refl
followed_bools true false false a false = refl
followed_bools false n true a true = refl
followed_bools false n true a false = refl
followed_bools false n false a true = refl
followed_bools false n false a false = refl

pub followed_of : (stated : List Oid) (expected : List ℕ → Bool) (policy : List ℕ) (allows s new listed kept : Bool)
    → new ≡ (listed || kept) → listed ≡ (is_picked stated (is_named_in false expected) policy && expected any_policy)
    → kept ≡ (if allows then expected policy else is_picked stated (is_named_in true expected) policy) → s ≡ is_among stated policy
    → new ≡ (((s && not (bytes_eq policy any_policy)) && (expected policy || expected any_policy)) || (allows && expected policy))
followed_of stated expected policy allows s new listed kept new_is listed_is kept_is s_is =
    rw (new_is, listed_is, kept_is, s_is, picked oid_contents (is_named_in false expected) policy stated, picked oid_contents (is_named_in true expected) policy stated)
    (followed_bools (is_among stated policy) (not (bytes_eq policy any_policy)) (expected policy) (expected any_policy) allows)

first_bools : (s n e a : Bool) → ((s && (n && not e)) && a) ≡ ((s && n) && (not e && a))
first_bools true true true a = refl
first_bools true true false a = refl
first_bools true false e a = refl
first_bools false n e a = refl

pub first_of : (stated : List Oid) (expected : List ℕ → Bool) (policy : List ℕ) (s listed : Bool)
    → listed ≡ (is_picked stated (is_named_in false expected) policy && expected any_policy) → s ≡ is_among stated policy
    → listed ≡ ((s && not (bytes_eq policy any_policy)) && (not (expected policy) && expected any_policy))
first_of stated expected policy s listed listed_is s_is =
    rw (listed_is, s_is, picked oid_contents (is_named_in false expected) policy stated)
    (first_bools (is_among stated policy) (not (bytes_eq policy any_policy)) (expected policy) (expected any_policy))

-- the mappings as the definitions have them

pub maps_is : (mappings : List PolicyMapping) (policy : List ℕ) → list_any (λ m. bytes_eq m.issuer_domain_policy policy) (map seen_mapping mappings) ≡ is_mapped_by mappings policy
maps_is mappings policy = any_of_map seen_mapping (λ m. bytes_eq m.issuer_domain_policy policy) mappings

pub subjects_are : (mappings : List PolicyMapping) (valid : List ℕ → Bool) (policy : List ℕ)
    → list_any (λ m. counts valid m && bytes_eq m.subject_domain_policy policy) (map seen_mapping mappings)
    ≡ is_subject_of mappings (λ issuer. valid issuer || valid any_policy) policy
subjects_are mappings valid policy = any_of_map seen_mapping (λ m. counts valid m && bytes_eq m.subject_domain_policy policy) mappings

inhibited_bools : (m v a : Bool) → (not m && v) ≡ ((v && not m) || (false && a))
inhibited_bools true true a = refl
inhibited_bools true false a = refl
inhibited_bools false true a = refl
inhibited_bools false false a = refl

pub inhibited_of : (mappings : List PolicyMapping) (valid : List ℕ → Bool) (policy : List ℕ) (inhibited new : Bool)
    → inhibited ≡ true → new ≡ (not (is_mapped_by mappings policy) && valid policy)
    → new
    ≡ ((valid policy && not (list_any (λ m. bytes_eq m.issuer_domain_policy policy) (map seen_mapping mappings)))
    || (not inhibited && list_any (λ m. counts valid m && bytes_eq m.subject_domain_policy policy) (map seen_mapping mappings)))
inhibited_of mappings valid policy inhibited new is new_is =
    rw (new_is, is, maps_is mappings policy) (inhibited_bools (is_mapped_by mappings policy) (valid policy) (list_any (λ m. counts valid m && bytes_eq m.subject_domain_policy policy) (map seen_mapping mappings)))

mapped_bools : (m v s : Bool) → (s || (not m && v)) ≡ ((v && not m) || (true && s))
mapped_bools true true true = refl
mapped_bools true true false = refl
mapped_bools true false true = refl
mapped_bools true false false = refl
mapped_bools false true true = refl
mapped_bools false true false = refl
mapped_bools false false true = refl
mapped_bools false false false = refl

pub mapped_of : (mappings : List PolicyMapping) (valid : List ℕ → Bool) (policy : List ℕ) (inhibited new : Bool)
    → inhibited ≡ false
    → new ≡ (is_subject_of mappings (λ issuer. valid issuer || valid any_policy) policy || (not (is_mapped_by mappings policy) && valid policy))
    → new
    ≡ ((valid policy && not (list_any (λ m. bytes_eq m.issuer_domain_policy policy) (map seen_mapping mappings)))
    || (not inhibited && list_any (λ m. counts valid m && bytes_eq m.subject_domain_policy policy) (map seen_mapping mappings)))
mapped_of mappings valid policy inhibited new is new_is =
    rw (new_is, is, maps_is mappings policy, subjects_are mappings valid policy)
    (mapped_bools (is_mapped_by mappings policy) (valid policy) (is_subject_of mappings (λ issuer. valid issuer || valid any_policy) policy))

first_mapped_bools : (m v a : Bool) → ((m && not v) && a) ≡ (true && (m && (not v && a)))
first_mapped_bools true v a = refl
first_mapped_bools false v a = refl

pub first_mapped_of : (mappings : List PolicyMapping) (valid : List ℕ → Bool) (policy : List ℕ) (inhibited listed : Bool)
    → inhibited ≡ false → listed ≡ (is_picked_issuer mappings (λ issuer. not (valid issuer)) policy && valid any_policy)
    → listed ≡ (not inhibited && (list_any (λ m. bytes_eq m.issuer_domain_policy policy) (map seen_mapping mappings) && (not (valid policy) && valid any_policy)))
first_mapped_of mappings valid policy inhibited listed is listed_is =
    rw (listed_is, is, maps_is mappings policy, picked (λ m. oid_contents m.issuer_domain_policy) (λ issuer. not (valid issuer)) policy mappings)
    (first_mapped_bools (is_mapped_by mappings policy) (valid policy) (valid any_policy))
