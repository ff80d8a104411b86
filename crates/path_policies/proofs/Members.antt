-- Sets of policies, by what they have.
use Rattle.std.proofs.Common.{◌≡◌, ℕ, Bool, true, false, not, cond, ◌||◌, ◌&&◌, List, [], ◌∷◌, length, map, refl, ap, sym, ◌∙◌, Bor, arith}
use Rattle.std.specs.List.{list_any, AllByRecursion}
use Rattle.std.specs.List.Sorted.{IsStrictlySortedBy}
use Rattle.std.specs.declared.cmp.Ordering.TheVariants.{Less}
use Rattle.std.specs.Ordering.{nat_cmp, eq_by_cmp, is_eq}
use Rattle.std.specs.Cmp.{tied_itself}
use Rattle.std.specs.Cmp.Lexicographic.{slice_cmp, texts_ties}
use Rattle.std.specs.Str.{bytes_eq}
use Rattle.std.specs.Map.Iter.{deref}
use Rattle.asn.specs.Oid.{oid_contents}
use Rattle.asn.specs.declared.oid.Oid.{Oid}
use Rattle.path_policies.specs.Lists.{is_among}
use Rattle.path_policies.proofs.Picks.{mapped_any}
use Rattle.path_policies.proofs.Same.{is_same_back}
use Rattle.std.proofs.lemmas.Cmp.{nat_list_cmp_total}

pub cond_true : (b a : Bool) → cond b true a ≡ (b || a)
cond_true true a = refl
cond_true false a = refl

pub cond_false : (b a : Bool) → cond b false a ≡ (not b && a)
cond_false true a = refl
cond_false false a = refl

abbrev has_key : List (Bor (List ℕ)) → List ℕ → Bool
has_key keys policy = list_any (λ key. eq_by_cmp (slice_cmp nat_cmp) policy key.now) keys

pub has_none : (keys : List (Bor (List ℕ))) → length keys ≡ 0 → (policy : List ℕ) → has_key keys policy ≡ false
has_none [] none policy = refl
has_none (key ∷ keys) none policy = absurd (omega arith)

pub has_one : (keys : List (Bor (List ℕ))) → ¬ (length keys ≡ 0) → (policy : List ℕ) × (has_key keys policy ≡ true)
has_one [] some = absurd (some refl)
has_one (key ∷ keys) some = (key.now, ap (λ b. b || has_key keys key.now) (ap is_eq (tied_itself nat_list_cmp_total key.now)))

-- a list of the policies of a set
pub all_contents : (items : List Oid) (yielded : List (Bor (Bor (List ℕ)))) (keys : List (Bor (List ℕ))) → map oid_contents items ≡ map (λ (policy : Bor (Bor (List ℕ))). policy.now.now) yielded
    → map deref yielded ≡ keys → map oid_contents items ≡ map (λ (key : Bor (List ℕ)). key.now) keys
all_contents items yielded keys are all = are ∙ twice yielded ∙ ap (map (λ (key : Bor (List ℕ)). key.now)) all where
  twice : (yielded : List (Bor (Bor (List ℕ)))) → map (λ (policy : Bor (Bor (List ℕ))). policy.now.now) yielded ≡ map (λ (key : Bor (List ℕ)). key.now) (map deref yielded)
  twice [] = refl
  twice (x ∷ xs) = ap (λ list. x.now.now ∷ list) (twice xs)

pub is_member : (items : List Oid) (keys : List (Bor (List ℕ))) (policy : List ℕ) → map oid_contents items ≡ map (λ (key : Bor (List ℕ)). key.now) keys → is_among items policy ≡ has_key keys policy
is_member items keys policy are =
    sym (mapped_any oid_contents policy items) ∙ ap (λ list. list_any (λ stated. bytes_eq stated policy) list) are ∙ mapped_any (λ (key : Bor (List ℕ)). key.now) policy keys ∙ by keys
  where
    by : (keys : List (Bor (List ℕ))) → list_any (λ key. bytes_eq key.now policy) keys ≡ has_key keys policy
    by [] = refl
    by (key ∷ keys) = (λ i. (is_same_back key.now policy ∙ texts_ties policy key.now) i || by keys i)

all_below : (key : Bor (List ℕ)) (keys : List (Bor (List ℕ))) → AllByRecursion (λ other. slice_cmp nat_cmp key.now other.now ≡ Less) keys
    → AllByRecursion (λ other. slice_cmp nat_cmp key.now other ≡ Less) (map (λ (key : Bor (List ℕ)). key.now) keys)
all_below key [] below = tt
all_below key (other ∷ keys) below = (below.0, all_below key keys below.1)

pub ascending : (keys : List (Bor (List ℕ))) → IsStrictlySortedBy (λ one other. slice_cmp nat_cmp one.now other.now) keys → IsStrictlySortedBy (slice_cmp nat_cmp) (map (λ (key : Bor (List ℕ)). key.now) keys)
unfolding IsStrictlySortedBy
ascending [] sorted = tt
ascending (key ∷ keys) sorted = (all_below key keys sorted.0, ascending keys sorted.1)
