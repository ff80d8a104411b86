-- That each member of a list has a type that none before it has, by a set of types and by pairs.
use Rattle.std.proofs.Common.{◌≡◌, ◌≢◌, ◌||◌, ℕ, suc, Bool, true, false, List, [], ◌∷◌, AllPairs, arith, refl, sym, ap, ◌∙◌}
use Rattle.std.specs.List.{AllByRecursion}
use Rattle.std.specs.Ordering.{nat_cmp, eq_by_cmp, is_eq}
use Rattle.std.specs.Cmp.Lexicographic.{slice_cmp}
use Rattle.std.specs.FinSet.{empty, contains, insert, contains-insert, contains-empty}
use Rattle.std.specs.FinMap.{nat_cmp-IsAntisymmetric, slice_cmp-IsAntisymmetric}
use Rattle.std.proofs.lemmas.Cmp.{nat_list_cmp_total}
use Rattle.std.specs.Cmp.{tied_itself, Equal-is}
use Rattle.std.proofs.lemmas.List.Elements.{recursion_from_All, All-from_recursion}
use Rattle.std.proofs.lemmas.List.Kept.{AllPairs-cons}
use Rattle.cert.specs.OidSet.{Oids}

-- none of the types is in the set, nor repeated
abbrev pub AreNew : {A : Type 0} → (A → List ℕ) → Oids → List A → Type 0
AreNew type types [] = Unit {0}
AreNew type types (one ∷ others) = (contains types (type one) ≡ false) × AreNew type (insert types (type one)) others

abbrev HaveOtherTypes : {A : Type 0} → (A → List ℕ) → A → A → Type 0
HaveOtherTypes type one other = type one ≢ type other

neither : (a b : Bool) → (a || b) ≡ false → (a ≡ false) × (b ≡ false)
neither true b e = absurd cc
neither false b e = (refl, e)

both_false : (a b : Bool) → a ≡ false → b ≡ false → (a || b) ≡ false
both_false true b e f = absurd cc
both_false false b e f = f

same_is_equal : (oid other : List ℕ) → other ≡ oid → eq_by_cmp (slice_cmp nat_cmp) oid other ≡ true
same_is_equal oid other e = rw e (ap is_eq (tied_itself nat_list_cmp_total oid))

other_is_not : (b : Bool) (oid other : List ℕ) → eq_by_cmp (slice_cmp nat_cmp) oid other ≡ b → (other ≢ oid) → b ≡ false
other_is_not true oid other e differ =
    absurd (differ (sym (slice_cmp-IsAntisymmetric nat_cmp-IsAntisymmetric oid other ((Equal-is (slice_cmp nat_cmp oid other)).0 e))))
other_is_not false oid other e differ = refl

-- where none of the types is in the set with one more, none is in the set, and none is that one
not_in : (types : Oids) (oid other : List ℕ) → contains (insert types oid) other ≡ false → (contains types other ≡ false) × (oid ≢ other)
not_in types oid other e =
    let parts = neither (eq_by_cmp (slice_cmp nat_cmp) other oid) (contains types other) (sym (contains-insert nat_list_cmp_total types oid other) ∙ e) in (
      parts.1,
      λ same. let yes = same_is_equal other oid same in let both : true ≡ false = sym yes ∙ parts.0 in absurd cc,
    )

in_neither : (types : Oids) (oid other : List ℕ) → contains types other ≡ false → (oid ≢ other) → contains (insert types oid) other ≡ false
in_neither types oid other e differ =
    contains-insert nat_list_cmp_total types oid other
    ∙ both_false (eq_by_cmp (slice_cmp nat_cmp) other oid) (contains types other) (other_is_not (eq_by_cmp (slice_cmp nat_cmp) other oid) other oid refl differ) e

abbrev Absent : {A : Type 0} → (A → List ℕ) → Oids → A → Type 0
Absent type types one = contains types (type one) ≡ false

new_absent : {A : Type 0} (type : A → List ℕ) (types : Oids) (list : List A) → AreNew type types list → AllByRecursion (Absent type types) list
new_absent type types [] new = tt
new_absent {A = A} type types (one ∷ others) new =
    (new.0, weaker others (new_absent type (insert types (type one)) others new.1))
  where
    weaker : (rest : List A) → AllByRecursion (Absent type (insert types (type one))) rest → AllByRecursion (Absent type types) rest
    weaker [] all = tt
    weaker (x ∷ rest) all = ((not_in types (type one) (type x) all.0).0, weaker rest all.1)

differ_from : {A : Type 0} (type : A → List ℕ) (types : Oids) (one : A) (rest : List A) → AllByRecursion (Absent type (insert types (type one))) rest → AllByRecursion (HaveOtherTypes type one) rest
differ_from type types one [] all = tt
differ_from type types one (x ∷ rest) all = ((not_in types (type one) (type x) all.0).1, differ_from type types one rest all.1)

pub new_pairs : {A : Type 0} (type : A → List ℕ) (types : Oids) (list : List A) → AreNew type types list → AllPairs (HaveOtherTypes type) list
new_pairs type types [] new = λ i j d lt within. absurd (omega arith)
new_pairs type types (one ∷ others) new =
    AllPairs-cons (HaveOtherTypes type) one others
    (All-from_recursion (HaveOtherTypes type one) others (differ_from type types one others (new_absent type (insert types (type one)) others new.1)))
    (new_pairs type (insert types (type one)) others new.1)

first_pairs : {A : Type 0} (type : A → List ℕ) (one : A) (others : List A) → AllPairs (HaveOtherTypes type) (one ∷ others) → AllByRecursion (HaveOtherTypes type one) others
first_pairs type one others pairs = recursion_from_All (HaveOtherTypes type one) others (λ k d within. pairs 0 (suc k) d (omega arith) (omega arith))

rest_pairs : {A : Type 0} (type : A → List ℕ) (one : A) (others : List A) → AllPairs (HaveOtherTypes type) (one ∷ others) → AllPairs (HaveOtherTypes type) others
rest_pairs type one others pairs = λ i j d lt within. pairs (suc i) (suc j) d (omega arith) (omega arith)

with_one : {A : Type 0} (type : A → List ℕ) (types : Oids) (one : A) (rest : List A) → AllByRecursion (Absent type types) rest → AllByRecursion (HaveOtherTypes type one) rest → AllByRecursion (Absent type (insert types (type one))) rest
with_one type types one [] absent differ = tt
with_one type types one (x ∷ rest) absent differ =
    (in_neither types (type one) (type x) absent.0 differ.0, with_one type types one rest absent.1 differ.1)

pairs_new : {A : Type 0} (type : A → List ℕ) (types : Oids) (list : List A) → AllByRecursion (Absent type types) list → AllPairs (HaveOtherTypes type) list → AreNew type types list
pairs_new type types [] absent pairs = tt
pairs_new type types (one ∷ others) absent pairs =
    (absent.0, pairs_new type (insert types (type one)) others (with_one type types one others absent.1 (first_pairs type one others pairs)) (rest_pairs type one others pairs))

none_in_empty : {A : Type 0} (type : A → List ℕ) (list : List A) → AllByRecursion (Absent type empty) list
none_in_empty type [] = tt
none_in_empty type (one ∷ others) = (contains-empty (slice_cmp nat_cmp) (type one), none_in_empty type others)

pub pairs_are_new : {A : Type 0} (type : A → List ℕ) (list : List A) → AllPairs (HaveOtherTypes type) list → AreNew type empty list
pairs_are_new type list pairs = pairs_new type empty list (none_in_empty type list) pairs
