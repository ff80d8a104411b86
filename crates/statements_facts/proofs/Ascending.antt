-- Serial numbers of which each is less than the next ascend.
use Rattle.std.proofs.Common.{◌≡◌, ℕ, suc, ◌+◌, ◌<◌, List, [], ◌∷◌, map, get_or, length, subst, arith}
use Rattle.std.specs.List.{AllByRecursion}
use Rattle.std.specs.List.Sorted.{IsStrictlySortedBy}
use Rattle.std.specs.Ordering.{nat_cmp}
use Rattle.std.specs.declared.cmp.Ordering.TheVariants.{Less}
use Rattle.std.specs.Cmp.Lexicographic.{slice_cmp}
use Rattle.std.proofs.lemmas.Cmp.{nat_list_cmp_total}
use Rattle.statements_facts.specs.Listed.{ListedSerial, IsAscending}

Above : ListedSerial → List ListedSerial → Type 0
Above x = AllByRecursion (λ y. slice_cmp nat_cmp x.serial y.serial ≡ Less)

above_more : (x y : ListedSerial) (zs : List ListedSerial) → slice_cmp nat_cmp x.serial y.serial ≡ Less → Above y zs → Above x zs
unfolding Above
above_more x y [] low above = tt
above_more x y (z ∷ zs) low above = (nat_list_cmp_total.trans x.serial y.serial z.serial low above.0, above_more x y zs low above.1)

module _ {X : Type 0} (seen : X → ListedSerial) where
  abbrev pub Precedes : X → X → Type 0
  Precedes one other = slice_cmp nat_cmp (seen one).serial (seen other).serial ≡ Less

  abbrev pub RisesBelow : ℕ → List X → Type 0
  RisesBelow end all = (k : ℕ) (d : X) → k + 1 < end → Precedes (get_or all k d) (get_or all (k + 1) d)

  pub rises_all : (all : List X) → RisesBelow (length all) all → IsAscending (map seen all)
  unfolding Above IsStrictlySortedBy
  rises_all [] rises = tt
  rises_all (x ∷ []) rises = (tt, tt)
  rises_all (x ∷ y ∷ rest) rises =
      let low : Precedes x y = rises 0 x (omega arith) in
      let up : IsAscending (map seen (y ∷ rest)) = rises_all (y ∷ rest) (λ k d below.
      let next : suc k + 1 ≡ suc (k + 1) = omega arith in
      subst (λ n. Precedes (get_or (y ∷ rest) k d) (get_or (x ∷ y ∷ rest) n d)) next (rises (suc k) d (omega (arith, below)))) in
      ((low, above_more (seen x) (seen y) (map seen rest) low up.0), up)
