-- The counters, one certificate after the other.
use Rattle.std.proofs.Common.{◌≡◌, ◌<◌, ◌≤◌, ◌+◌, ◌==◌, ℕ, List, [], ◌∷◌, ◌++◌, Option, length, map, get_or, refl, ap, sym, ◌∙◌, ⊎_elim, arith}
use Rattle.std.proofs.lemmas.List.{get_or-map, get_or_push, get_or_append_left}
use Rattle.std.proofs.lemmas.Bool.{cases_lt}
use native.Mathlib.Numerals.{unary_clauses}
use Rattle.cert_policies.specs.PolicyExtensions.{PolicyExtensions}
use Rattle.path_policies.specs.declared.query.PolicyCertificate as code
use Rattle.path_policies.specs.declared.inhibitions.Inhibitions as inhibitions
use Rattle.path_policies.specs.Query.{PolicyCertificate, PolicyQuery, says_nothing, certificate_numbered, count}
use Rattle.path_policies.specs.Seen.{seen_policy_certificate, no_inhibitions, inhibitions_in, seen_inhibitions}
use Rattle.path_policies.specs.Steps.{inhibitions_behind, inhibitions_at, left_behind, lesser, counted}

-- the certificate behind i others
pub numbered : (certificates : List code.PolicyCertificate) (i : ℕ) (d : code.PolicyCertificate) → i < length certificates
    → get_or (says_nothing ∷ map seen_policy_certificate certificates) (i + 1) says_nothing ≡ seen_policy_certificate (get_or certificates i d)
numbered certificates i d below = simp unary_clauses (get_or-map seen_policy_certificate certificates i d says_nothing below)

pub left_next : (says : PolicyExtensions → Option ℕ) (q : PolicyQuery) (i : ℕ)
    → left_behind says q (i + 1) ≡ lesser (counted (left_behind says q i) (certificate_numbered q (i + 1)).self_issued) (says (certificate_numbered q (i + 1)).extensions)
left_next says q i = simp unary_clauses refl

pub left_more : (says : PolicyExtensions → Option ℕ) (q : PolicyQuery) (i : ℕ) (left : Option ℕ) (c : PolicyCertificate)
    → left ≡ left_behind says q i → certificate_numbered q (i + 1) ≡ c → lesser (counted left c.self_issued) (says c.extensions) ≡ left_behind says q (i + 1)
left_more says q i left c left_is c_is = rw (left_is, sym c_is) (sym (left_next says q i))

pub each_more : (q : PolicyQuery) (items : List inhibitions.Inhibitions) (n : ℕ) (x : inhibitions.Inhibitions) → length items ≡ n
    → ((i : ℕ) → i < n → inhibitions_in items i ≡ inhibitions_behind q i) → seen_inhibitions x ≡ inhibitions_behind q n
    → (i : ℕ) → i < n + 1 → inhibitions_in (items ++ x ∷ []) i ≡ inhibitions_behind q i
each_more q items n x length_is each last i below = ⊎_elim old new (cases_lt i n) where
  old : i < n → inhibitions_in (items ++ x ∷ []) i ≡ inhibitions_behind q i
  old less = ap seen_inhibitions (get_or_append_left items (x ∷ []) no_inhibitions i (rw length_is less)) ∙ each i less

  new : n ≤ i → inhibitions_in (items ++ x ∷ []) i ≡ inhibitions_behind q i
  new more =
      let is : n ≡ i = omega arith in
      ap seen_inhibitions (get_or_push items x no_inhibitions i (length_is ∙ is)) ∙ last ∙ ap (inhibitions_behind q) is

-- what the code has found, and what the definitions say, of the certificate behind i others
pub at_behind : (q : PolicyQuery) (i : ℕ) (c : PolicyCertificate) (n : ℕ) (explicit mapping any : Option ℕ)
    → certificate_numbered q (i + 1) ≡ c → count q ≡ n
    → explicit ≡ left_behind (λ e. e.require_explicit_policy) q i → mapping ≡ left_behind (λ e. e.inhibit_policy_mapping) q i
    → any ≡ left_behind (λ e. e.inhibit_any_policy) q i
    → inhibitions_at q c (i + 1 == n) explicit mapping any ≡ inhibitions_behind q i
at_behind q i c n explicit mapping any c_is n_is explicit_is mapping_is any_is = rw (explicit_is, mapping_is, any_is, sym c_is, sym n_is) refl
