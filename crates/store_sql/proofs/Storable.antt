-- Rows of integers, octet strings and NULL, which SQLite can store unless they are too long; and ids that are free.
use Rattle.std.proofs.Common.{◌≡◌, ◌<◌, ◌≤◌, ◌+◌, ℕ, ℤ, pos, negsuc, ◌+ℤ◌, ◌≤ℤ◌, ◌<ℤ◌, List, [], ◌∷◌, map, fold, length, sum_by, true, false, refl, arith}
use Rattle.std.proofs.lemmas.Bool.Decides.{nat_tests}
use Rattle.std.proofs.lemmas.Int.{ints}
use Rattle.std.proofs.lemmas.List.Elements.{All-from_recursion}
use Rattle.std.specs.Int.{bit_at}
use Rattle.std.specs.List.{AllByRecursion}
use Rattle.std.specs.Float.{NotNan, float_zero}
use Rattle.std.specs.Float.Ieee
use Rattle.sqlite_value.specs.Order.{bytes, exact, number}
use Rattle.sqlite.specs.Order.{Row}
use Rattle.sqlite.specs.declared.types.Value.TheVariants.{Int}
use Rattle.sqlite_sql.specs.Ops.{fits_i64}
use Rattle.sqlite_trees.specs.Tree.{rowid}
use Rattle.sqlite_trees.specs.View.{IsStorable}
use Rattle.sqlite_rules.specs.Edit.{id_in, is_taken, next_rowid}
use Rattle.store_sql.proofs.Rowids.{other_is}

pub int_is_number : (n : ℤ) → NotNan (exact n)
unfolding Ieee.is_nan
int_is_number (pos n) = tt
int_is_number (negsuc n) = tt

pub zero_is_number : NotNan float_zero
unfolding Ieee.is_nan
zero_is_number = tt

no_bit : (c : ℕ) → bit_at 0 c ≡ 1 → ⊥
no_bit c e = omega (arith, e)

-- no column of the row is a float
pub storable : (row : Row) → AllByRecursion (λ v. NotNan (number v)) row → 0 < length row → length row ≤ 2001 → sum_by (λ v. 18 + length (bytes v)) row ≤ 1000000000 → IsStorable 0 row
storable row numbers some few short = record {
  typed = λ c e. absurd (no_bit c e);
  columns = (some, few);
  numbers = All-from_recursion _ row numbers;
  short = short;
}

pub fits_between : (z : ℤ) → negsuc 9223372036854775807 ≤ℤ z → z ≤ℤ pos 9223372036854775807 → fits_i64 z ≡ true
fits_between (pos n) low high = grind (arith, ints, nat_tests)
fits_between (negsuc n) low high = grind (arith, ints, nat_tests)

module _ {X : Type 0} (row : X → Row) (id : X → ℤ) (keyed : (x : X) → rowid (row x) ≡ Int (id x)) where
  between : (s : ℤ) (xs : List X) → negsuc 9223372036854775807 ≤ℤ s → s ≤ℤ pos 9223372036854775807 → AllByRecursion (λ x. (negsuc 9223372036854775807 ≤ℤ id x) × (id x <ℤ pos 9223372036854775807)) xs
      → (negsuc 9223372036854775807 ≤ℤ fold (λ _ r. id_in (rowid r) +ℤ pos 1) s (map row xs)) × (fold (λ _ r. id_in (rowid r) +ℤ pos 1) s (map row xs) ≤ℤ pos 9223372036854775807)
  between s [] low high h = (low, high)
  between s (x ∷ xs) low high h = between (id_in (rowid (row x)) +ℤ pos 1) xs (rw (keyed x) (let l = h.0.0 in grind (arith, ints))) (rw (keyed x) (let l = h.0.1 in grind (arith, ints))) h.1

  -- behind ids that are below the greatest there is one more
  pub next_fits : (xs : List X) → AllByRecursion (λ x. (negsuc 9223372036854775807 ≤ℤ id x) × (id x <ℤ pos 9223372036854775807)) xs → fits_i64 (next_rowid (map row xs)) ≡ true
  next_fits xs h = let it = between (pos 1) xs (grind (arith, ints)) (grind (arith, ints)) h in fits_between (next_rowid (map row xs)) it.0 it.1

  pub not_taken : (n : ℤ) (rest : Row) (xs : List X) → AllByRecursion (λ x. ¬ (id x ≡ n)) xs → is_taken (map row xs) (Int n ∷ rest) ≡ false
  not_taken n rest [] h = refl
  not_taken n rest (x ∷ xs) h = rw (keyed x, other_is (id x) n h.0) (not_taken n rest xs h.1)

  pub apart_below : (n : ℤ) (xs : List X) → AllByRecursion (λ x. id x <ℤ n) xs → AllByRecursion (λ x. ¬ (id x ≡ n)) xs
  apart_below n [] h = tt
  apart_below n (x ∷ xs) h = (λ e. let l = h.0 in absurd (grind (arith, ints)), apart_below n xs h.1)
