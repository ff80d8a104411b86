-- One more certificate from the end upward.
use Rattle.std.proofs.Common.{◌≡◌, ◌<◌, ◌+◌, ◌-◌, ◌==◌, ◌&&◌, ◌||◌, ℕ, Bool, true, false, List, ◌∷◌, length, map, get_or, refl, ap, sym, ◌∙◌, arith, if◌then◌else◌, Bor}
use Rattle.std.proofs.lemmas.List.{length-map}
use lib.Dec.{eqb→eq}
use Rattle.std.proofs.lemmas.Float.{T_from_true}
use native.Mathlib.Numerals.{unary_clauses}
use Rattle.path_policies.specs.declared.query.PolicyCertificate as code
use Rattle.path_policies.specs.Query.{PolicyCertificate, PolicyQuery, says_nothing, certificate_numbered, count}
use Rattle.path_policies.specs.Lists.{is_listed, is_lasting}
use Rattle.path_policies.specs.Seen.{seen_policy_certificate}
use Rattle.path_policies.specs.Steps.{inhibitions_behind, goes_on, goes_down, goes_on_above, lasts_above, named_above, first_behind}
use Rattle.path_policies.proofs.Counting.{numbered}
use Rattle.path_policies.proofs.Picks.{picked}

-- the certificate with so many below it
pub numbered_above : (q : PolicyQuery) (certificates : List code.PolicyCertificate) (more : ℕ) (d : code.PolicyCertificate) → q.certificates ≡ map seen_policy_certificate certificates
    → more < length certificates → certificate_numbered q (count q - more) ≡ seen_policy_certificate (get_or certificates (length certificates - more - 1) d)
numbered_above q certificates more d are below =
    let same : count q - more ≡ (length certificates - more - 1) + 1 = (let n = ap length are ∙ length-map certificates seen_policy_certificate in omega arith) in
    ap (λ i. get_or (says_nothing ∷ q.certificates) i says_nothing) same
    ∙ ap (λ list. get_or (says_nothing ∷ list) ((length certificates - more - 1) + 1) says_nothing) are
    ∙ numbered certificates (length certificates - more - 1) d (omega arith)

pub index_above : (q : PolicyQuery) (n more : ℕ) → count q ≡ n → more < n → count q - (more + 1) ≡ n - more - 1
index_above q n more is below = omega arith

lasts_next : (q : PolicyQuery) (more : ℕ) (policy : List ℕ) → lasts_above q (more + 1) policy
    ≡ goes_down (certificate_numbered q (count q - more)) (inhibitions_behind q (count q - (more + 1))).allows_any (goes_on_above q more (lasts_above q more)) policy
lasts_next q more policy = simp unary_clauses refl

named_next : (q : PolicyQuery) (more : ℕ) (policy : List ℕ) → named_above q (more + 1) policy
    ≡ ((first_behind q (count q - (more + 1)) policy && goes_on_above q more (lasts_above q more) policy) || named_above q more policy)
named_next q more policy = simp unary_clauses refl

-- the mappings of the certificate passed
pub passed_mappings : (q : PolicyQuery) (more : ℕ) (c : PolicyCertificate) (inhibited : Bool) (lasts : List ℕ → Bool) (policy : List ℕ) (new : Bool)
    → lasts ≡ lasts_above q more → certificate_numbered q (count q - more) ≡ c → (inhibitions_behind q (count q - (more + 1))).mapping_inhibited ≡ inhibited
    → new ≡ (if more == 0 then lasts policy else goes_on c inhibited lasts policy) → new ≡ goes_on_above q more (lasts_above q more) policy
passed_mappings q more c inhibited lasts policy new lasts_are c_is inhibited_is new_is =
    rw (new_is, lasts_are, sym c_is, sym inhibited_is) (by (more == 0) refl)
  where
    by : (b : Bool) → (more == 0) ≡ b
        → (if b then lasts_above q more policy else goes_on (certificate_numbered q (count q - more)) (inhibitions_behind q (count q - (more + 1))).mapping_inhibited (lasts_above q more) policy)
        ≡ (if b then true else goes_on (certificate_numbered q (count q - more)) (inhibitions_behind q (count q - (more + 1))).mapping_inhibited (lasts_above q more) policy)
    by true is = ap (λ (more : ℕ). lasts_above q more policy) (eqb→eq more 0 (T_from_true (more == 0) is))
    by false is = refl

-- and the certificate itself
pub went_up : (q : PolicyQuery) (more : ℕ) (c : PolicyCertificate) (allows : Bool) (lasts : List ℕ → Bool) (policy : List ℕ) (new : Bool)
    → lasts ≡ goes_on_above q more (lasts_above q more) → certificate_numbered q (count q - more) ≡ c → (inhibitions_behind q (count q - (more + 1))).allows_any ≡ allows
    → new ≡ goes_down c allows lasts policy → new ≡ lasts_above q (more + 1) policy
went_up q more c allows lasts policy new lasts_are c_is allows_is new_is = rw (new_is, lasts_are, sym c_is, sym allows_is) (sym (lasts_next q more policy))

pub named_more : (q : PolicyQuery) (more : ℕ) (first : List (Bor (List ℕ))) (lasts : List ℕ → Bool) (policy : List ℕ) (new old : Bool)
    → lasts ≡ goes_on_above q more (lasts_above q more) → is_listed first policy ≡ first_behind q (count q - (more + 1)) policy
    → old ≡ named_above q more policy → new ≡ (is_lasting first lasts policy || old) → new ≡ named_above q (more + 1) policy
named_more q more first lasts policy new old lasts_are first_is old_is new_is =
    rw (new_is, old_is, picked (λ listed. listed.now) lasts policy first, first_is, lasts_are) (sym (named_next q more policy))
