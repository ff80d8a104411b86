-- A list fits if the entries do from which it was made.
use Rattle.std.proofs.Common.{◌≡◌, ◌≤◌, ℕ, suc, Bool, true, false, ◌||◌, List, [], ◌∷◌, map, length, is_some, refl, sym, ap, subst, ◌∙◌, inl, inr, arith, true≢false}
use Rattle.std.proofs.lemmas.Bool.{cases_Bool}
use Rattle.std.proofs.lemmas.Cmp.{nat_list_cmp_total}
use Rattle.std.proofs.lemmas.Map.Made.{length-le_from_is_member}
use Rattle.std.proofs.lemmas.Slice.Eq.{bytes_eq-Decides}
use Rattle.std.specs.Cmp.{IsEquivalence, tied_itself}
use Rattle.std.specs.Cmp.Lexicographic.{slice_cmp}
use Rattle.std.specs.List.{AllByRecursion, IsDistinct, list_any}
use Rattle.std.specs.List.Sorted.{IsStrictlySortedBy}
use Rattle.std.specs.Ordering.{nat_cmp}
use Rattle.std.specs.declared.cmp.Ordering.TheVariants.{Less, Equal}
use Rattle.std.specs.Str.{bytes_eq}
use Rattle.sqlite_rules.specs.Lists.{Has}
use Rattle.sqlite_rules.proofs.ListLemmas.{all_from}
use Rattle.statements_facts.specs.Listed.{ListedSerial, IsAscending, first_reason}
use Rattle.store_rows.specs.Room.{EntriesFit, FitRow}

same_is : (a b : List ℕ) → bytes_eq a b ≡ true → a ≡ b
same_is a b = (bytes_eq-Decides a b).0

is_same : (a b : List ℕ) → a ≡ b → bytes_eq a b ≡ true
is_same a b = (bytes_eq-Decides a b).1

turned : (a b : List ℕ) → bytes_eq a b ≡ bytes_eq b a
turned a b = elim (cases_Bool (bytes_eq a b)) [
  | inl same ↦ same ∙ sym (is_same b a (sym (same_is a b same)))
  | inr far ↦ elim (cases_Bool (bytes_eq b a)) [
    | inl same ↦ absurd (true≢false (sym (is_same a b (sym (same_is b a same))) ∙ far))
    | inr apart ↦ far ∙ sym apart
  ]
]

octets_equal : IsEquivalence bytes_eq
octets_equal = record { refl = λ x. is_same x x refl; symm = turned; congr = λ x y z e. ap (λ w. bytes_eq w z) (same_is x y e) }

abbrev serials : List ListedSerial → List (List ℕ)
serials = map (λ entry. entry.serial)

abbrev is_listed : List ListedSerial → List ℕ → Bool
is_listed xs serial = list_any (bytes_eq serial) (serials xs)

-- a serial number that is listed has a reason, and none else has
reason_there : (xs : List ListedSerial) (serial : List ℕ) → is_some (first_reason xs serial) ≡ is_listed xs serial
reason_there [] serial = refl
reason_there (x ∷ xs) serial = elim (cases_Bool (bytes_eq x.serial serial)) [
  | inl here ↦ rw (turned serial x.serial, here) refl
  | inr other ↦ rw (turned serial x.serial, other) (reason_there xs serial)
]

-- ---- not more of them

apart : (x : ListedSerial) (xs : List ListedSerial) → AllByRecursion (λ (y : ListedSerial). slice_cmp nat_cmp x.serial y.serial ≡ Less) xs → AllByRecursion (λ s. bytes_eq x.serial s ≡ false) (serials xs)
apart x [] low = tt
apart x (y ∷ ys) low = (
  elim (cases_Bool (bytes_eq x.serial y.serial)) [
    | inl same ↦ absurd (let tied : slice_cmp nat_cmp x.serial x.serial ≡ Equal = tied_itself nat_list_cmp_total x.serial in
        let less : slice_cmp nat_cmp x.serial x.serial ≡ Less = ap (slice_cmp nat_cmp x.serial) (same_is x.serial y.serial same) ∙ low.0 in
        let no : Equal ≡ Less = sym tied ∙ less in cc)
    | inr far ↦ far
  ],
  apart x ys low.1,
)

distinct : (xs : List ListedSerial) → IsAscending xs → IsDistinct bytes_eq (serials xs)
unfolding IsStrictlySortedBy IsDistinct
distinct [] up = tt
distinct (x ∷ xs) up = (apart x xs up.0, distinct xs up.1)

as_many : (xs : List ListedSerial) → length (serials xs) ≡ length xs
as_many [] = refl
as_many (x ∷ xs) = ap suc (as_many xs)

-- ---- nor longer

listed_fits : (xs : List ListedSerial) (serial : List ℕ) → AllByRecursion (λ (entry : ListedSerial). FitRow (length entry.serial)) xs → is_listed xs serial ≡ true → FitRow (length serial)
listed_fits [] serial short there = absurd (true≢false (sym there))
listed_fits (x ∷ xs) serial short there = elim (cases_Bool (bytes_eq serial x.serial)) [
  | inl here ↦ subst (λ (s : List ℕ). FitRow (length s)) (sym (same_is serial x.serial here)) short.0
  | inr other ↦ listed_fits xs serial short.1 (rw other at there)
]

is_there : (xs : List ListedSerial) (x : ListedSerial) → Has xs x → is_listed xs x.serial ≡ true
is_there [] x h = absurd h
is_there (y ∷ ys) x (inl same) = rw (is_same x.serial y.serial (ap (λ (e : ListedSerial). e.serial) same)) refl
is_there (y ∷ ys) x (inr later) = elim (cases_Bool (bytes_eq x.serial y.serial)) [
  | inl here ↦ rw here refl
  | inr other ↦ rw other (is_there ys x later)
]

pub made_fits : (revoked listed : List ListedSerial) → IsAscending revoked → ((serial : List ℕ) → first_reason revoked serial ≡ first_reason listed serial) → EntriesFit listed → EntriesFit revoked
made_fits revoked listed up reasons fit =
    let also = λ (serial : List ℕ). sym (reason_there revoked serial) ∙ ap is_some (reasons serial) ∙ reason_there listed serial in
    let fewer = length-le_from_is_member octets_equal (serials revoked) (serials listed) (distinct revoked up) (λ serial there. sym (also serial) ∙ there) in
    record {
      few = let one = as_many revoked in let other = as_many listed in let few = fit.few in omega (arith, one, other, few, fewer);
      short = all_from (λ (entry : ListedSerial). FitRow (length entry.serial)) revoked (λ entry there. listed_fits listed entry.serial fit.short (sym (also entry.serial) ∙ is_there revoked entry there));
    }
