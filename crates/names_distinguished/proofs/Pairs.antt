-- Pairs and neighbours in a list.
use Rattle.std.proofs.Common.{◌≡◌, ◌≢◌, ℕ, zero, suc, ◌+◌, ◌<◌, List, [], ◌∷◌, ◌++◌, length, get_or, Bool, false, refl, subst₂, arith, length-append, add-one, AllPairs, IsSortedBy}
use Rattle.std.specs.List.{AllByRecursion}
use Rattle.std.proofs.Math.Seq.{get_or-append_seam}
use Rattle.std.proofs.lemmas.List.{get_or_append_left}
use Rattle.std.proofs.lemmas.List.Elements.{recursion_from_All, All-from_recursion}
use Rattle.std.proofs.lemmas.List.Quantifiers.{all_pairs_push}

pub not_empty : {X : Type 0} (xs : List X) → (xs ≢ []) → (x : X) × (rest : List X) × (xs ≡ x ∷ rest)
not_empty [] some = absurd (some refl)
not_empty (x ∷ rest) some = (x, rest, refl)

pub has_one : {X : Type 0} (xs : List X) (x : X) (rest : List X) → xs ≡ x ∷ rest → xs ≢ []
has_one [] x rest e none = absurd cc
has_one (y ∷ ys) x rest e none = absurd cc

-- the elements before one, beside it
pub pairs_before : {X : Type 0} (R : X → X → Type 0) (before behind : List X) (x : X) → AllPairs R (before ++ x ∷ behind) → AllByRecursion (λ y. R y x) before
pairs_before R before behind x pairs =
    recursion_from_All (λ y. R y x) before (λ k d lt.
    subst₂ R (get_or_append_left before (x ∷ behind) d k lt) (get_or-append_seam before x behind d)
    (pairs k (length before) d lt (omega (arith, length-append before (x ∷ behind)))))

pub pairs_push : {X : Type 0} (R : X → X → Type 0) (before : List X) (x : X) → AllPairs R before → AllByRecursion (λ y. R y x) before → AllPairs R (before ++ x ∷ [])
pairs_push R before x pairs all = all_pairs_push R before x pairs (λ k d lt. All-from_recursion (λ y. R y x) before all k d lt)

-- no element is less than the one before it, which is first for the front of the list
abbrev pub FollowInOrder : {X : Type 0} → (X → X → Bool) → X → List X → Type 0
FollowInOrder lt first [] = Unit {0}
FollowInOrder lt first (x ∷ xs) = (lt x first ≡ false) × FollowInOrder lt x xs

follow_at : {X : Type 0} (lt : X → X → Bool) (first : X) (xs : List X) → FollowInOrder lt first xs → (k n : ℕ) (d : X) → n ≡ suc k → n < length (first ∷ xs) → lt (get_or (first ∷ xs) n d) (get_or (first ∷ xs) k d) ≡ false
follow_at lt first [] follow k n d e within = absurd (omega arith)
follow_at lt first (x ∷ xs) follow zero n d e within = rw e follow.0
follow_at lt first (x ∷ xs) follow (suc k) n d e within = rw e (follow_at lt x xs follow.1 k (suc k) d refl (omega arith))

pub sorted_from : {X : Type 0} (lt : X → X → Bool) (first : X) (xs : List X) → FollowInOrder lt first xs → IsSortedBy lt (first ∷ xs)
sorted_from lt first xs follow k d low within = follow_at lt first xs follow k (k + 1) d (add-one k) within

pub follow_from : {X : Type 0} (lt : X → X → Bool) (first : X) (xs : List X) → IsSortedBy lt (first ∷ xs) → FollowInOrder lt first xs
follow_from lt first [] sorted = tt
follow_from lt first (x ∷ xs) sorted = (
  sorted 0 x (omega arith) (omega arith),
  follow_from lt x xs (λ k d low within. let h = sorted (suc k) d (omega arith) (omega arith) in rw (add-one k) (rw (add-one (suc k)) at h)),
)
