-- Numbers that are not negative, as SQLite's integers.
use Rattle.std.proofs.Common.{◌≡◌, ◌≢◌, ◌⊎◌, ℕ, pos, ◌<ℤ◌, ◌<◌, ◌≤◌, List, [], ◌∷◌, true, false, ◌==◌, nat_lt, sym, ap, ◌∙◌, inl, inr, arith, Less, Equal, Greater, true≢false}
use Rattle.std.proofs.lemmas.Bool.{cases_Bool}
use Rattle.std.proofs.lemmas.Bool.Decides.{nat_tests}
use Rattle.std.proofs.lemmas.Int.{ints}
use Rattle.std.specs.Cmp.{int_cmp_is}
use Rattle.std.specs.List.{AllByRecursion}
use Rattle.std.specs.Ordering.{is_eq, is_lt, is_ge, int_cmp}
use Rattle.sqlite_trees.specs.Tree.{IsAscending}

pub is_eq_of : (a b : ℕ) → a ≡ b → (a == b) ≡ true
is_eq_of a b e = grind (arith, nat_tests)

pub eq_of : (a b : ℕ) → (a == b) ≡ true → a ≡ b
eq_of a b e = grind (arith, nat_tests)

pub apart_of : (a b : ℕ) → a ≢ b → (a == b) ≡ false
apart_of a b e = grind (arith, nat_tests)

pub low_pos : (a b : ℕ) → a < b → pos a <ℤ pos b
low_pos a b h = grind (arith, ints)

order : (a b : ℕ) → a ≢ b → (a < b) ⊎ (b < a)
order a b far = grind arith

pub same_pos : (a b : ℕ) → is_eq (int_cmp (pos a) (pos b)) ≡ (a == b)
same_pos a b = elim (cases_Bool (a == b)) [
  | inl e ↦ let s : a ≡ b = eq_of a b e in ap is_eq (sym (int_cmp_is (pos a) (pos b) Equal (ap pos s))) ∙ sym e
  | inr e ↦ let far : a ≢ b = (λ s. true≢false (sym (is_eq_of a b s) ∙ e)) in elim (order a b far) [
    | inl less ↦ ap is_eq (sym (int_cmp_is (pos a) (pos b) Less (low_pos a b less))) ∙ sym e
    | inr more ↦ ap is_eq (sym (int_cmp_is (pos a) (pos b) Greater (low_pos b a more))) ∙ sym e
  ]
]

pub cmp_low : (a b : ℕ) → a < b → int_cmp (pos a) (pos b) ≡ Less
cmp_low a b h = sym (int_cmp_is (pos a) (pos b) Less (low_pos a b h))

pub cmp_high : (a b : ℕ) → b < a → int_cmp (pos a) (pos b) ≡ Greater
cmp_high a b h = sym (int_cmp_is (pos a) (pos b) Greater (low_pos b a h))

pub cmp_same : (a b : ℕ) → a ≡ b → int_cmp (pos a) (pos b) ≡ Equal
cmp_same a b h = sym (int_cmp_is (pos a) (pos b) Equal (ap pos h))

pub below_tells : (a b : ℕ) → ((nat_lt a b ≡ true) × (a < b)) ⊎ ((nat_lt a b ≡ false) × (b ≤ a))
below_tells a b = elim (cases_Bool (nat_lt a b)) [
  | inl e ↦ inl (e, grind (arith, nat_tests))
  | inr e ↦ inr (e, grind (arith, nat_tests))
]

pub from_tells : (a n : ℕ) → ((a ≤ n) × (is_ge (int_cmp (pos n) (pos a)) ≡ true)) ⊎ ((n < a) × (is_ge (int_cmp (pos n) (pos a)) ≡ false))
from_tells a n = elim (below_tells n a) [
  | inl less ↦ inr (less.1, ap is_ge (cmp_low n a less.1))
  | inr more ↦ elim (below_tells a n) [
    | inl high ↦ inl (more.1, ap is_ge (cmp_high n a high.1))
    | inr same ↦ inl (more.1, ap is_ge (cmp_same n a (omega arith)))
  ]
]

pub under_tells : (n b : ℕ) → ((n < b) × (is_lt (int_cmp (pos n) (pos b)) ≡ true)) ⊎ ((b ≤ n) × (is_lt (int_cmp (pos n) (pos b)) ≡ false))
under_tells n b = elim (below_tells n b) [
  | inl less ↦ inl (less.1, ap is_lt (cmp_low n b less.1))
  | inr more ↦ elim (below_tells b n) [
    | inl high ↦ inr (more.1, ap is_lt (cmp_high n b high.1))
    | inr same ↦ inr (more.1, ap is_lt (cmp_same n b (omega arith)))
  ]
]

module _ {X : Type 0} (key : X → ℕ) where
  all_pos : (x : X) (xs : List X) → AllByRecursion (λ y. key x < key y) xs → AllByRecursion (λ y. pos (key x) <ℤ pos (key y)) xs
  all_pos x [] h = tt
  all_pos x (y ∷ ys) h = (low_pos (key x) (key y) h.0, all_pos x ys h.1)

  pub rise_pos : (xs : List X) → IsAscending (λ a b. key a < key b) xs → IsAscending (λ a b. pos (key a) <ℤ pos (key b)) xs
  rise_pos [] h = tt
  rise_pos (x ∷ xs) h = (all_pos x xs h.0, rise_pos xs h.1)

  low_nat : (a b : ℕ) → pos a <ℤ pos b → a < b
  low_nat a b h = grind (arith, ints)

  all_nat : (x : X) (xs : List X) → AllByRecursion (λ y. pos (key x) <ℤ pos (key y)) xs → AllByRecursion (λ y. key x < key y) xs
  all_nat x [] h = tt
  all_nat x (y ∷ ys) h = (low_nat (key x) (key y) h.0, all_nat x ys h.1)

  pub rise_nat : (xs : List X) → IsAscending (λ a b. pos (key a) <ℤ pos (key b)) xs → IsAscending (λ a b. key a < key b) xs
  rise_nat [] h = tt
  rise_nat (x ∷ xs) h = (all_nat x xs h.0, rise_nat xs h.1)
