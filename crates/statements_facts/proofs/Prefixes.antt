-- The text with the lesser prefix is less.
use Rattle.std.proofs.Common.{◌≡◌, ℕ, zero, suc, ◌<◌, List, [], ◌∷◌, get_or, refl, sym, subst, inl, inr, arith}
use Rattle.std.specs.Ordering.{nat_cmp}
use Rattle.std.specs.declared.cmp.Ordering.TheVariants.{Less, Equal}
use Rattle.std.proofs.lemmas.Bool.{cases_lt}
use Rattle.std.proofs.lemmas.Bool.Decides.{nat_tests}
use Rattle.std.specs.Cmp.Lexicographic.{slice_cmp}
use Rattle.statements_facts.specs.Prefix.{prefix_value}

abbrev AreOctets : List ℕ → Type 0
AreOctets xs = (k : ℕ) → get_or xs k 0 < 256

cmp_less : (x y : ℕ) → x < y → nat_cmp x y ≡ Less
cmp_less x y h = grind (arith, nat_tests)

pub cmp_same : (x y : ℕ) → x ≡ y → nat_cmp x y ≡ Equal
cmp_same x y h = grind (arith, nat_tests)

-- ---- texts that are alike up to a place decide there

decides : (count : ℕ) (xs ys : List ℕ) → ((k : ℕ) → k < count → get_or xs k 0 ≡ get_or ys k 0) → get_or xs count 0 < get_or ys count 0 → slice_cmp nat_cmp xs ys ≡ Less
decides count xs [] alike low = absurd (omega arith)
decides count [] (y ∷ ys) alike low = refl
decides zero (x ∷ xs) (y ∷ ys) alike low = rw (cmp_less x y low) refl
decides (suc count) (x ∷ xs) (y ∷ ys) alike low = rw (cmp_same x y (alike 0 (omega arith))) (decides count xs ys (λ k below. alike (suc k) (omega (arith, below))) low)

-- ---- equal prefixes are alike

alike : (count : ℕ) (xs ys : List ℕ) → AreOctets xs → AreOctets ys → prefix_value count xs ≡ prefix_value count ys → (k : ℕ) → k < count → get_or xs k 0 ≡ get_or ys k 0
alike zero xs ys bx by same k below = absurd (omega (arith, below))
alike (suc count) xs ys bx by same k below =
    let x = bx count in
    let y = by count in
    let front : prefix_value count xs ≡ prefix_value count ys = omega (arith, same, x, y) in
    let last : get_or xs count 0 ≡ get_or ys count 0 = omega (arith, same, front) in
    elim (cases_lt k count) [
      | inl before ↦ alike count xs ys bx by front k before
      | inr behind ↦ let here : k ≡ count = omega (arith, below, behind) in subst (λ n. get_or xs n 0 ≡ get_or ys n 0) (sym here) last
    ]

pub lesser : (count : ℕ) (xs ys : List ℕ) → AreOctets xs → AreOctets ys → prefix_value count xs < prefix_value count ys → slice_cmp nat_cmp xs ys ≡ Less
lesser zero xs ys bx by low = absurd (omega (arith, low))
lesser (suc count) xs ys bx by low =
    let x = bx count in
    let y = by count in
    elim (cases_lt (prefix_value count xs) (prefix_value count ys)) [
      | inl before ↦ lesser count xs ys bx by before
      | inr behind ↦
          let front : prefix_value count xs ≡ prefix_value count ys = omega (arith, low, behind, x, y) in
          decides count xs ys (alike count xs ys bx by front) (omega (arith, low, front))
    ]
