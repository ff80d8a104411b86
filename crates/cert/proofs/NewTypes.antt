-- That each extension of a list has a type that none before it has, by a set of types and by pairs.
use Rattle.std.proofs.Common.{◌≡◌, ◌≢◌, ◌||◌, ℕ, suc, Bool, true, false, List, [], ◌∷◌, AllPairs, arith, refl, sym, ap, ◌∙◌}
use Rattle.std.specs.List.{AllByRecursion}
use Rattle.std.specs.Ordering.{nat_cmp, eq_by_cmp, is_eq}
use Rattle.std.specs.Cmp.Lexicographic.{slice_cmp}
use Rattle.std.specs.FinSet.{empty, contains, insert, contains-insert, contains-empty}
use Rattle.std.specs.FinMap.{nat_cmp-IsAntisymmetric, slice_cmp-IsAntisymmetric}
use Rattle.std.proofs.lemmas.Cmp.{nat_list_cmp_total}
use Rattle.std.specs.Cmp.{tied_itself, Equal-is}
use Rattle.std.proofs.lemmas.List.Elements.{recursion_from_All, All-from_recursion}
use Rattle.std.proofs.lemmas.List.Kept.{AllPairs-cons}
use Rattle.cert.specs.OidSet.{Oids}
use Rattle.cert.specs.ExtensionForms.{Told}

-- none of the types is in the set, nor repeated
abbrev pub AreNew : Oids → List Told → Type 0
AreNew types [] = Unit {0}
AreNew types (one ∷ others) = (contains types one.extension.oid ≡ false) × AreNew (insert types one.extension.oid) others

abbrev HaveOtherTypes : Told → Told → Type 0
HaveOtherTypes one other = one.extension.oid ≢ other.extension.oid

neither : (a b : Bool) → (a || b) ≡ false → (a ≡ false) × (b ≡ false)
neither true b e = absurd cc
neither false b e = (refl, e)

both_false : (a b : Bool) → a ≡ false → b ≡ false → (a || b) ≡ false
both_false true b e f = absurd cc
both_false false b e f = f

same_is_equal : (oid other : List ℕ) → other ≡ oid → eq_by_cmp (slice_cmp nat_cmp) oid other ≡ true
same_is_equal oid other e = rw e (ap is_eq (tied_itself nat_list_cmp_total oid))

other_is_not : (b : Bool) (oid other : List ℕ) → eq_by_cmp (slice_cmp nat_cmp) oid other ≡ b → (other ≢ oid) → b ≡ false
other_is_not true oid other e differ =
    absurd (differ (sym (slice_cmp-IsAntisymmetric nat_cmp-IsAntisymmetric oid other ((Equal-is (slice_cmp nat_cmp oid other)).0 e))))
other_is_not false oid other e differ = refl

-- where none of the types is in the set with one more, none is in the set, and none is that one
not_in : (types : Oids) (oid other : List ℕ) → contains (insert types oid) other ≡ false → (contains types other ≡ false) × (oid ≢ other)
not_in types oid other e =
    let parts = neither (eq_by_cmp (slice_cmp nat_cmp) other oid) (contains types other) (sym (contains-insert nat_list_cmp_total types oid other) ∙ e) in (
      parts.1,
      λ same. let yes = same_is_equal other oid same in let both : true ≡ false = sym yes ∙ parts.0 in absurd cc,
    )

in_neither : (types : Oids) (oid other : List ℕ) → contains types other ≡ false → (oid ≢ other) → contains (insert types oid) other ≡ false
in_neither types oid other e differ =
    contains-insert nat_list_cmp_total types oid other
    ∙ both_false (eq_by_cmp (slice_cmp nat_cmp) other oid) (contains types other) (other_is_not (eq_by_cmp (slice_cmp nat_cmp) other oid) other oid refl differ) e

abbrev Absent : Oids → Told → Type 0
Absent types one = contains types one.extension.oid ≡ false

new_absent : (types : Oids) (list : List Told) → AreNew types list → AllByRecursion (Absent types) list
new_absent types [] new = tt
new_absent types (one ∷ others) new =
    (new.0, weaker others (new_absent (insert types one.extension.oid) others new.1))
  where
    weaker : (rest : List Told) → AllByRecursion (Absent (insert types one.extension.oid)) rest → AllByRecursion (Absent types) rest
    weaker [] all = tt
    weaker (x ∷ rest) all = ((not_in types one.extension.oid x.extension.oid all.0).0, weaker rest all.1)

differ_from : (types : Oids) (one : Told) (rest : List Told) → AllByRecursion (Absent (insert types one.extension.oid)) rest → AllByRecursion (HaveOtherTypes one) rest
differ_from types one [] all = tt
differ_from types one (x ∷ rest) all = ((not_in types one.extension.oid x.extension.oid all.0).1, differ_from types one rest all.1)

pub new_pairs : (types : Oids) (list : List Told) → AreNew types list → AllPairs HaveOtherTypes list
new_pairs types [] new = λ i j d lt within. absurd (omega arith)
new_pairs types (one ∷ others) new =
    AllPairs-cons HaveOtherTypes one others
    (All-from_recursion (HaveOtherTypes one) others (differ_from types one others (new_absent (insert types one.extension.oid) others new.1)))
    (new_pairs (insert types one.extension.oid) others new.1)

pub first_pairs : (one : Told) (others : List Told) → AllPairs HaveOtherTypes (one ∷ others) → AllByRecursion (HaveOtherTypes one) others
first_pairs one others pairs = recursion_from_All (HaveOtherTypes one) others (λ k d within. pairs 0 (suc k) d (omega arith) (omega arith))

pub rest_pairs : (one : Told) (others : List Told) → AllPairs HaveOtherTypes (one ∷ others) → AllPairs HaveOtherTypes others
rest_pairs one others pairs = λ i j d lt within. pairs (suc i) (suc j) d (omega arith) (omega arith)

with_one : (types : Oids) (one : Told) (rest : List Told) → AllByRecursion (Absent types) rest → AllByRecursion (HaveOtherTypes one) rest → AllByRecursion (Absent (insert types one.extension.oid)) rest
with_one types one [] absent differ = tt
with_one types one (x ∷ rest) absent differ =
    (in_neither types one.extension.oid x.extension.oid absent.0 differ.0, with_one types one rest absent.1 differ.1)

pairs_new : (types : Oids) (list : List Told) → AllByRecursion (Absent types) list → AllPairs HaveOtherTypes list → AreNew types list
pairs_new types [] absent pairs = tt
pairs_new types (one ∷ others) absent pairs =
    (absent.0, pairs_new (insert types one.extension.oid) others (with_one types one others absent.1 (first_pairs one others pairs)) (rest_pairs one others pairs))

none_in_empty : (list : List Told) → AllByRecursion (Absent empty) list
none_in_empty [] = tt
none_in_empty (one ∷ others) = (contains-empty (slice_cmp nat_cmp) one.extension.oid, none_in_empty others)

pub pairs_are_new : (list : List Told) → AllPairs HaveOtherTypes list → AreNew empty list
pairs_are_new list pairs = pairs_new empty list (none_in_empty list) pairs
