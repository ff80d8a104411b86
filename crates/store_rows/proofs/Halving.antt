-- Halving over serials that rise.
use Rattle.std.proofs.Common.{◌≡◌, ◌⊎◌, ℕ, zero, suc, ◌+◌, ◌<◌, ◌≤◌, true, false, List, [], ◌∷◌, length, slice_get, Option, Some, None, refl, sym, ap, subst, ◌∙◌, inl, inr, Less, Equal, Greater, arith}
use Rattle.std.proofs.lemmas.Option.{slice_get_within, slice_get_cases}
use Rattle.std.proofs.lemmas.Map.Text.{is_eq-slice_cmp}
use Rattle.std.proofs.lemmas.Cmp.{nat_list_cmp_total}
use Rattle.std.specs.Cmp.{IsTotalOrder}
use Rattle.std.specs.List.{AllByRecursion}
use Rattle.std.specs.Str.{bytes_eq}
use Rattle.std.specs.Ordering.{nat_cmp, is_eq}
use Rattle.std.specs.Cmp.Lexicographic.{slice_cmp}
use Rattle.std.specs.declared.cmp.Ordering.{Ordering}
use Rattle.sqlite_trees.specs.Tree.{IsAscending}
use Rattle.store_rows.specs.declared.beside.SerialAtPlace.TheVariants.{Nothing, Below, Same, Above}
use Rattle.statements_facts.specs.Listed.{ListedSerial, first_reason}
use Rattle.store_rows.specs.Places.{IsBelow, beside_of, beside_serial}

-- all before this place are below the serial
pub record AreBelow (ps : List ListedSerial) (serial : List ℕ) (low : ℕ) : Type 0 where
  pub all : (k : ℕ) (p : ListedSerial) → k < low → slice_get ps k ≡ Some p → slice_cmp nat_cmp p.serial serial ≡ Less

-- all from this place on are above it
pub record AreAbove (ps : List ListedSerial) (serial : List ℕ) (high : ℕ) : Type 0 where
  pub all : (k : ℕ) (p : ListedSerial) → high ≤ k → slice_get ps k ≡ Some p → slice_cmp nat_cmp p.serial serial ≡ Greater

all_get : {X : Type 0} (P : X → Type 0) (xs : List X) (k : ℕ) (x : X) → AllByRecursion P xs → slice_get xs k ≡ Some x → P x
all_get P [] k x h e = cc
all_get P (y ∷ xs) zero x h e = let same : y ≡ x = cc in subst P same h.0
all_get P (y ∷ xs) (suc k) x h e = all_get P xs k x h.1 e

pub rising_get : (ps : List ListedSerial) (j k : ℕ) (p q : ListedSerial) → IsAscending IsBelow ps → j < k → slice_get ps j ≡ Some p → slice_get ps k ≡ Some q → IsBelow p q
rising_get [] j k p q up low a b = cc
rising_get (x ∷ ps) j zero p q up low a b = absurd (omega arith)
rising_get (x ∷ ps) zero (suc k) p q up low a b = let same : x ≡ p = cc in subst (λ y. IsBelow y q) same (all_get (IsBelow x) ps k q up.0 b)
rising_get (x ∷ ps) (suc j) (suc k) p q up low a b = rising_get ps j k p q up.1 (omega arith) a b

one_of : {X : Type 0} (o : Option X) (a b : X) → o ≡ Some a → o ≡ Some b → a ≡ b
one_of o a b e f = cc

is_below : (o : Ordering) (r : ℕ) → beside_serial o r ≡ Below → o ≡ Less
is_below Less r e = refl
is_below Equal r e = cc
is_below Greater r e = cc

is_above : (o : Ordering) (r : ℕ) → beside_serial o r ≡ Above → o ≡ Greater
is_above Less r e = cc
is_above Equal r e = cc
is_above Greater r e = refl

pub is_same : (o : Ordering) (r x : ℕ) → beside_serial o r ≡ Same x → (o ≡ Equal) × (r ≡ x)
is_same Less r x e = cc
is_same Equal r x e = (refl, cc)
is_same Greater r x e = cc

abbrev order : IsTotalOrder (slice_cmp nat_cmp)
order = nat_list_cmp_total

greater_of : (a b : List ℕ) → slice_cmp nat_cmp a b ≡ Greater → slice_cmp nat_cmp b a ≡ Less
greater_of a b e = order.antisymm b a ∙ ap Rattle.std.specs.Ordering.ordering_reverse e

less_of : (a b : List ℕ) → slice_cmp nat_cmp a b ≡ Less → slice_cmp nat_cmp b a ≡ Greater
less_of a b e = order.antisymm b a ∙ ap Rattle.std.specs.Ordering.ordering_reverse e

pub below_more : (ps : List ListedSerial) (serial : List ℕ) (m : ℕ) → IsAscending IsBelow ps → beside_of (slice_get ps m) serial ≡ Below → AreBelow ps serial (m + 1)
below_more ps serial m up e = elim ((slice_get_cases ps m).1) [
  | inl it ↦ record {
    all = λ k p low there.
        let here : slice_cmp nat_cmp it.0.serial serial ≡ Less = is_below (slice_cmp nat_cmp it.0.serial serial) it.0.reason (ap (λ o. beside_of o serial) (sym it.2) ∙ e) in
        elim (split k m (omega arith)) [
          | inl less ↦ order.trans p.serial it.0.serial serial (rising_get ps k m p it.0 up less there it.2) here
          | inr same ↦ let one : it.0 ≡ p = one_of (slice_get ps m) _ _ it.2 (ap (slice_get ps) (sym same) ∙ there) in subst (λ q. slice_cmp nat_cmp q.serial serial ≡ Less) one here
        ];
  }
  | inr none ↦ absurd (let f : beside_of (slice_get ps m) serial ≡ Nothing = ap (λ o. beside_of o serial) none.1 in let g : Nothing ≡ Below = sym f ∙ e in cc)
]
  where
    split : (k m : ℕ) → k ≤ m → (k < m) ⊎ (k ≡ m)
    split k m h = grind arith

pub above_here : (ps : List ListedSerial) (serial : List ℕ) (m : ℕ) → IsAscending IsBelow ps → beside_of (slice_get ps m) serial ≡ Above → AreAbove ps serial m
above_here ps serial m up e = elim ((slice_get_cases ps m).1) [
  | inl it ↦ record {
    all = λ k p low there.
        let here : slice_cmp nat_cmp it.0.serial serial ≡ Greater = is_above (slice_cmp nat_cmp it.0.serial serial) it.0.reason (ap (λ o. beside_of o serial) (sym it.2) ∙ e) in
        elim (split k m low) [
          | inl less ↦ less_of serial p.serial (order.trans serial it.0.serial p.serial (greater_of it.0.serial serial here) (rising_get ps m k it.0 p up less it.2 there))
          | inr same ↦ let one : it.0 ≡ p = one_of (slice_get ps m) _ _ it.2 (ap (slice_get ps) (sym same) ∙ there) in subst (λ q. slice_cmp nat_cmp q.serial serial ≡ Greater) one here
        ];
  }
  | inr none ↦ absurd (let f : beside_of (slice_get ps m) serial ≡ Nothing = ap (λ o. beside_of o serial) none.1 in let g : Nothing ≡ Above = sym f ∙ e in cc)
]
  where
    split : (k m : ℕ) → m ≤ k → (m < k) ⊎ (k ≡ m)
    split k m h = grind arith

never : (o : Ordering) (r : ℕ) → beside_serial o r ≡ Nothing → ⊥
never Less r e = cc
never Equal r e = cc
never Greater r e = cc

pub none_past : (ps : List ListedSerial) (serial : List ℕ) (m : ℕ) → length ps ≤ m → AreAbove ps serial m
none_past ps serial m few = record { all = λ k p low there. absurd (let w = slice_get_within ps k p there in omega (arith, w)) }

pub none_here : (ps : List ListedSerial) (serial : List ℕ) (m : ℕ) → beside_of (slice_get ps m) serial ≡ Nothing → AreAbove ps serial m
none_here ps serial m e = elim ((slice_get_cases ps m).1) [
  | inl it ↦ absurd (never (slice_cmp nat_cmp it.0.serial serial) it.0.reason (ap (λ o. beside_of o serial) (sym it.2) ∙ e))
  | inr none ↦ none_past ps serial m none.0
]

pub no_places : (ps : List ListedSerial) (serial : List ℕ) → AreBelow ps serial 0
no_places ps serial = record { all = λ k p low there. absurd (omega arith) }

differs : (a b : List ℕ) (o : Ordering) → slice_cmp nat_cmp a b ≡ o → is_eq o ≡ false → bytes_eq a b ≡ false
differs a b o e far = sym (is_eq-slice_cmp a b) ∙ ap is_eq e ∙ far

absent : (ps : List ListedSerial) (serial : List ℕ) → ((k : ℕ) (p : ListedSerial) → slice_get ps k ≡ Some p → bytes_eq p.serial serial ≡ false) → first_reason ps serial ≡ None
absent [] serial h = refl
absent (p ∷ ps) serial h = rw (h 0 p refl) (absent ps serial (λ k q e. h (suc k) q e))

-- the search has closed without it
pub not_listed : (ps : List ListedSerial) (serial : List ℕ) (low high : ℕ) → AreBelow ps serial low → AreAbove ps serial high → high ≤ low → first_reason ps serial ≡ None
not_listed ps serial low high below above met = absent ps serial (λ k p there. elim (split k) [
  | inl less ↦ differs p.serial serial Less (below.all k p less there) refl
  | inr more ↦ differs p.serial serial Greater (above.all k p (omega arith) there) refl
])
  where
    split : (k : ℕ) → (k < low) ⊎ (low ≤ k)
    split k = grind arith

present : (ps : List ListedSerial) (serial : List ℕ) (m : ℕ) (p : ListedSerial) → IsAscending IsBelow ps → slice_get ps m ≡ Some p → slice_cmp nat_cmp p.serial serial ≡ Equal → first_reason ps serial ≡ Some p.reason
present [] serial m p up there same = cc
present (x ∷ ps) serial zero p up there same =
    let one : x ≡ p = cc in
    let is : bytes_eq x.serial serial ≡ true = ap (λ q. bytes_eq q.serial serial) one ∙ sym (is_eq-slice_cmp p.serial serial) ∙ ap is_eq same in
    rw is (ap (λ q. Some q.reason) one)
present (x ∷ ps) serial (suc m) p up there same =
    let low : IsBelow x p = all_get (IsBelow x) ps m p up.0 there in
    let less : slice_cmp nat_cmp x.serial serial ≡ Less = before x.serial p.serial serial low same in
    rw (differs x.serial serial Less less refl) (present ps serial m p up.1 there same)
  where
    before : (a b c : List ℕ) → slice_cmp nat_cmp a b ≡ Less → slice_cmp nat_cmp b c ≡ Equal → slice_cmp nat_cmp a c ≡ Less
    before a b c low tied = greater_of c a (sym (order.congr b c a tied) ∙ less_of a b low)

pub listed_here : (ps : List ListedSerial) (serial : List ℕ) (m : ℕ) (reason : ℕ) → IsAscending IsBelow ps → beside_of (slice_get ps m) serial ≡ Same reason → first_reason ps serial ≡ Some reason
listed_here ps serial m reason up e = elim ((slice_get_cases ps m).1) [
  | inl it ↦ let same = is_same (slice_cmp nat_cmp it.0.serial serial) it.0.reason reason (ap (λ o. beside_of o serial) (sym it.2) ∙ e) in present ps serial m it.0 up it.2 same.0 ∙ ap (λ r. Some r) same.1
  | inr none ↦ absurd (let f : beside_of (slice_get ps m) serial ≡ Nothing = ap (λ o. beside_of o serial) none.1 in let g : Nothing ≡ Same reason = sym f ∙ e in cc)
]
