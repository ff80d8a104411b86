-- Lists of numbers in order, and which begin with which.
use Rattle.std.proofs.Common.{◌≡◌, ◌⊎◌, ◌<◌, ℕ, List, [], ◌∷◌, Bool, true, false, ◌==◌, refl, ap, sym, ◌∙◌, inl, inr, arith}
use Rattle.std.specs.declared.cmp.Ordering.{Ordering}
use Rattle.std.specs.declared.cmp.Ordering.TheVariants.{Less, Equal, Greater}
use Rattle.std.specs.Ordering.{nat_cmp, is_lt, ordering_then}
use Rattle.std.specs.Cmp.Lexicographic.{slice_cmp}
use Rattle.std.proofs.lemmas.Bool.{and_parts, and_from, eqb-true, eq-eqb, lt-ltb, le-ltb, false≢true, cases_order}
use Rattle.std.proofs.lemmas.Bool.Decides.{nat_tests}
use Rattle.names_order.specs.Order.{begins_with}

-- the first list comes before the second
abbrev pub comes_before : List ℕ → List ℕ → Bool
comes_before a b = is_lt (slice_cmp nat_cmp a b)

pub same_tests : (s t : Bool) → (s ≡ true → t ≡ true) → (t ≡ true → s ≡ true) → s ≡ t
same_tests true t f g = sym (f refl)
same_tests false true f g = g refl
same_tests false false f g = refl

pub then_equal : (o : Ordering) → ordering_then o Equal ≡ o
then_equal Less = refl
then_equal Equal = refl
then_equal Greater = refl

pub then_then : (o p q : Ordering) → ordering_then o (ordering_then p q) ≡ ordering_then (ordering_then o p) q
then_then Less p q = refl
then_then Equal p q = refl
then_then Greater p q = refl

pub cmp_less : (x y : ℕ) → x < y → nat_cmp x y ≡ Less
cmp_less x y lt = rw (lt-ltb x y lt) refl

pub cmp_same : (x : ℕ) → nat_cmp x x ≡ Equal
cmp_same x = rw (le-ltb x x (omega arith), eq-eqb x x refl) refl

pub cmp_greater : (x y : ℕ) → y < x → nat_cmp x y ≡ Greater
cmp_greater x y lt = grind (arith, nat_tests)

not_greater : (x y : ℕ) (xs ys : List ℕ) → comes_before (y ∷ ys) (x ∷ xs) ≡ false → (x < y) ⊎ ((x ≡ y) × (comes_before ys xs ≡ false))
not_greater x y xs ys h =
    elim (cases_order y x) [
      | inl e ↦ inr (sym e, sym (ap (λ o. is_lt (ordering_then o (slice_cmp nat_cmp ys xs))) (ap (nat_cmp y) (sym e) ∙ cmp_same y)) ∙ h)
      | inr (inl lt) ↦ absurd (false≢true (sym h ∙ ap (λ o. is_lt (ordering_then o (slice_cmp nat_cmp ys xs))) (cmp_less y x lt)))
      | inr (inr gt) ↦ inl gt
    ]

-- what begins with a list doesn't come before it
pub begins_behind : (a p : List ℕ) → begins_with a p ≡ true → comes_before a p ≡ false
begins_behind [] [] h = refl
begins_behind (x ∷ a) [] h = refl
begins_behind [] (y ∷ p) h = absurd (false≢true h)
begins_behind (x ∷ a) (y ∷ p) h =
    let parts = and_parts (y == x) (begins_with a p) h in
    let same : nat_cmp x y ≡ Equal = ap (nat_cmp x) (eqb-true y x parts.0) ∙ cmp_same x in
    ap (λ o. is_lt (ordering_then o (slice_cmp nat_cmp a p))) same ∙ begins_behind a p parts.1

-- what stands between a list and one that begins with it begins with it too
pub begins_between : (p m a : List ℕ) → begins_with a p ≡ true → comes_before m p ≡ false → comes_before a m ≡ false → begins_with m p ≡ true
begins_between [] m a h low high = refl
begins_between (y ∷ p) m [] h low high = absurd (false≢true h)
begins_between (y ∷ p) [] (x ∷ a) h low high = absurd (false≢true (sym low))
begins_between (y ∷ p) (z ∷ m) (x ∷ a) h low high =
    let parts = and_parts (y == x) (begins_with a p) h in
    let same : y ≡ x = eqb-true y x parts.0 in
    elim (not_greater y z p m low) [
      | inl lt ↦ elim (not_greater z x m a high) [ inl gt ↦ absurd (omega arith) | inr e ↦ absurd (omega (arith, e.0)) ]
      | inr e ↦ elim (not_greater z x m a high) [
        | inl gt ↦ absurd (omega (arith, e.0))
        | inr f ↦ and_from (y == z) (begins_with m p) (eq-eqb y z e.0) (begins_between p m a parts.1 e.1 f.1)
      ]
    ]

pub begins_with_each : (a m p : List ℕ) → begins_with a m ≡ true → begins_with m p ≡ true → begins_with a p ≡ true
begins_with_each a m [] h k = refl
begins_with_each a [] (y ∷ p) h k = absurd (false≢true k)
begins_with_each [] (z ∷ m) (y ∷ p) h k = absurd (false≢true h)
begins_with_each (x ∷ a) (z ∷ m) (y ∷ p) h k =
    let first = and_parts (z == x) (begins_with a m) h in
    let second = and_parts (y == z) (begins_with m p) k in
    and_from (y == x) (begins_with a p) (eq-eqb y x (eqb-true y z second.0 ∙ eqb-true z x first.0)) (begins_with_each a m p first.1 second.1)
