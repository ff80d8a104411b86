-- From the end upward: what a certificate does to the policies that go on.
use Rattle.std.proofs.Common.{◌≡◌, ℕ, Bool, true, false, not, ◌&&◌, ◌||◌, List, [], ◌∷◌, map, refl, sym, if◌then◌else◌}
use Rattle.std.specs.List.{list_any}
use Rattle.std.specs.Str.{bytes_eq}
use Rattle.std.proofs.lemmas.Bool.{false≢true}
use Rattle.asn.specs.Oid.{oid_contents}
use Rattle.asn.specs.declared.oid.Oid.{Oid}
use Rattle.cert_policies.specs.PolicyExtensions.{seen_mapping}
use Rattle.cert_policies.specs.declared.mappings.PolicyMapping.{PolicyMapping}
use Rattle.path_policies.specs.Query.{any_policy}
use Rattle.path_policies.specs.Lists.{same, is_among, is_picked, is_named_in, is_mapped_by, is_issuer_of}
use Rattle.path_policies.proofs.Picks.{picked, any_of_map}
use Rattle.path_policies.proofs.Adding.{maps_is}

-- who is an issuer of a mapping to one that lasts is an issuer of one
no_issuer : (mappings : List PolicyMapping) (lasts : List ℕ → Bool) (policy : List ℕ) → is_mapped_by mappings policy ≡ false → is_issuer_of mappings lasts policy ≡ false
no_issuer [] lasts policy none = refl
no_issuer (m ∷ mappings) lasts policy none =
    by (bytes_eq (oid_contents m.issuer_domain_policy) policy) (is_mapped_by mappings policy) (lasts (oid_contents m.subject_domain_policy)) none (no_issuer mappings lasts policy)
  where
    by : (same rest last : Bool) → (same || rest) ≡ false → (rest ≡ false → is_issuer_of mappings lasts policy ≡ false) → ((last && same) || is_issuer_of mappings lasts policy) ≡ false
    by true rest last lacks others = absurd (false≢true (sym lacks))
    by false rest true lacks others = others lacks
    by false rest false lacks others = others lacks

issuers_are : (mappings : List PolicyMapping) (lasts : List ℕ → Bool) (policy : List ℕ)
    → list_any (λ m. lasts m.subject_domain_policy && bytes_eq m.issuer_domain_policy policy) (map seen_mapping mappings) ≡ is_issuer_of mappings lasts policy
issuers_are mappings lasts policy = any_of_map seen_mapping (λ m. lasts m.subject_domain_policy && bytes_eq m.issuer_domain_policy policy) mappings

pub inhibited_goes : (mappings : List PolicyMapping) (lasts : List ℕ → Bool) (policy : List ℕ) (inhibited new : Bool) → inhibited ≡ true
    → new ≡ (if is_mapped_by mappings policy then false else lasts policy)
    → new
    ≡ (if list_any (λ m. bytes_eq m.issuer_domain_policy policy) (map seen_mapping mappings)
    then not inhibited && list_any (λ m. lasts m.subject_domain_policy && bytes_eq m.issuer_domain_policy policy) (map seen_mapping mappings)
    else lasts policy)
inhibited_goes mappings lasts policy inhibited new is new_is = rw (new_is, is, maps_is mappings policy) refl

pub mapped_goes : (mappings : List PolicyMapping) (lasts : List ℕ → Bool) (policy : List ℕ) (inhibited new listed : Bool) → inhibited ≡ false
    → new ≡ (listed || (if is_mapped_by mappings policy then false else lasts policy)) → listed ≡ is_issuer_of mappings lasts policy
    → new
    ≡ (if list_any (λ m. bytes_eq m.issuer_domain_policy policy) (map seen_mapping mappings)
    then not inhibited && list_any (λ m. lasts m.subject_domain_policy && bytes_eq m.issuer_domain_policy policy) (map seen_mapping mappings)
    else lasts policy)
mapped_goes mappings lasts policy inhibited new listed is new_is listed_is =
    rw (new_is, listed_is, is, maps_is mappings policy, issuers_are mappings lasts policy)
    (by (is_mapped_by mappings policy) (is_issuer_of mappings lasts policy) (no_issuer mappings lasts policy))
  where
    by : (mapped issuer : Bool) → (mapped ≡ false → issuer ≡ false) → (issuer || (if mapped then false else lasts policy)) ≡ (if mapped then (true && issuer) else lasts policy)
    by true true none = refl
    by true false none = refl
    by false true none = absurd (false≢true (sym (none refl)))
    by false false none = refl

goes_bools : (s n h o : Bool) → ((s && (n && same (not o) h)) || false) ≡ (((s && n) || false) && not (same h o))
goes_bools true true true true = refl
goes_bools true true true false = refl
goes_bools true true false true = refl
goes_bools true true false false = refl
goes_bools true false true true = refl
goes_bools true false true false = refl
goes_bools true false false true = refl
goes_bools true false false false = refl
goes_bools false n true true = refl
goes_bools false n true false = refl
goes_bools false n false true = refl
goes_bools false n false false = refl

pub named_goes : (stated : List Oid) (has : List ℕ → Bool) (others : Bool) (policy : List ℕ) (allows s new listed empty : Bool) → allows ≡ false → s ≡ is_among stated policy
    → new ≡ (listed || not (same empty false)) → empty ≡ false → listed ≡ is_picked stated (is_named_in (not others) has) policy
    → new ≡ (((s && not (bytes_eq policy any_policy)) || allows) && not (same (has policy) others))
named_goes stated has others policy allows s new listed empty allows_is s_is new_is empty_is listed_is =
    rw (new_is, listed_is, empty_is, allows_is, s_is, picked oid_contents (is_named_in (not others) has) policy stated)
    (goes_bools (is_among stated policy) (not (bytes_eq policy any_policy)) (has policy) others)
