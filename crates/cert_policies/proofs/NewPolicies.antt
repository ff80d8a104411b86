-- That each policy of a list is none of those before it, by a set of policies and by pairs.
use Rattle.std.proofs.Common.{◌≡◌, ◌≢◌, ◌||◌, ℕ, suc, Bool, true, false, List, [], ◌∷◌, AllPairs, arith, refl, sym, ap, ◌∙◌}
use Rattle.std.specs.List.{AllByRecursion}
use Rattle.std.specs.Ordering.{nat_cmp, eq_by_cmp, is_eq}
use Rattle.std.specs.Cmp.Lexicographic.{slice_cmp}
use Rattle.std.specs.FinSet.{empty, contains, insert, contains-insert, contains-empty}
use Rattle.std.specs.FinMap.{nat_cmp-IsAntisymmetric, slice_cmp-IsAntisymmetric}
use Rattle.std.proofs.lemmas.Cmp.{nat_list_cmp_total}
use Rattle.std.specs.Cmp.{tied_itself, Equal-is}
use Rattle.std.proofs.lemmas.List.Elements.{recursion_from_All, All-from_recursion}
use Rattle.std.proofs.lemmas.List.Kept.{AllPairs-cons}
use Rattle.cert.specs.OidSet.{Oids}

-- none of the policies is in the set, nor repeated
abbrev pub AreNew : Oids → List (List ℕ) → Type 0
AreNew set [] = Unit {0}
AreNew set (one ∷ others) = (contains set one ≡ false) × AreNew (insert set one) others

abbrev Differ : List ℕ → List ℕ → Type 0
Differ one other = one ≢ other

neither : (a b : Bool) → (a || b) ≡ false → (a ≡ false) × (b ≡ false)
neither true b e = absurd cc
neither false b e = (refl, e)

both_false : (a b : Bool) → a ≡ false → b ≡ false → (a || b) ≡ false
both_false true b e f = absurd cc
both_false false b e f = f

same_is_equal : (oid other : List ℕ) → other ≡ oid → eq_by_cmp (slice_cmp nat_cmp) oid other ≡ true
same_is_equal oid other e = rw e (ap is_eq (tied_itself nat_list_cmp_total oid))

other_is_not : (b : Bool) (oid other : List ℕ) → eq_by_cmp (slice_cmp nat_cmp) oid other ≡ b → (other ≢ oid) → b ≡ false
other_is_not true oid other e differ =
    absurd (differ (sym (slice_cmp-IsAntisymmetric nat_cmp-IsAntisymmetric oid other ((Equal-is (slice_cmp nat_cmp oid other)).0 e))))
other_is_not false oid other e differ = refl

-- what is not in the set with one more is not in the set, and is not that one
not_in : (set : Oids) (oid other : List ℕ) → contains (insert set oid) other ≡ false → (contains set other ≡ false) × (oid ≢ other)
not_in set oid other e =
    let parts = neither (eq_by_cmp (slice_cmp nat_cmp) other oid) (contains set other) (sym (contains-insert nat_list_cmp_total set oid other) ∙ e) in (
      parts.1,
      λ same. let yes = same_is_equal other oid same in let both : true ≡ false = sym yes ∙ parts.0 in absurd cc,
    )

in_neither : (set : Oids) (oid other : List ℕ) → contains set other ≡ false → (oid ≢ other) → contains (insert set oid) other ≡ false
in_neither set oid other e differ =
    contains-insert nat_list_cmp_total set oid other
    ∙ both_false (eq_by_cmp (slice_cmp nat_cmp) other oid) (contains set other) (other_is_not (eq_by_cmp (slice_cmp nat_cmp) other oid) other oid refl differ) e

abbrev Absent : Oids → List ℕ → Type 0
Absent set one = contains set one ≡ false

new_absent : (set : Oids) (list : List (List ℕ)) → AreNew set list → AllByRecursion (Absent set) list
new_absent set [] new = tt
new_absent set (one ∷ others) new =
    (new.0, weaker others (new_absent (insert set one) others new.1))
  where
    weaker : (rest : List (List ℕ)) → AllByRecursion (Absent (insert set one)) rest → AllByRecursion (Absent set) rest
    weaker [] all = tt
    weaker (x ∷ rest) all = ((not_in set one x all.0).0, weaker rest all.1)

differ_from : (set : Oids) (one : List ℕ) (rest : List (List ℕ)) → AllByRecursion (Absent (insert set one)) rest → AllByRecursion (Differ one) rest
differ_from set one [] all = tt
differ_from set one (x ∷ rest) all = ((not_in set one x all.0).1, differ_from set one rest all.1)

pub new_pairs : (set : Oids) (list : List (List ℕ)) → AreNew set list → AllPairs Differ list
new_pairs set [] new = λ i j d lt within. absurd (omega arith)
new_pairs set (one ∷ others) new =
    AllPairs-cons Differ one others
    (All-from_recursion (Differ one) others (differ_from set one others (new_absent (insert set one) others new.1)))
    (new_pairs (insert set one) others new.1)

pub first_pairs : (one : List ℕ) (others : List (List ℕ)) → AllPairs Differ (one ∷ others) → AllByRecursion (Differ one) others
first_pairs one others pairs = recursion_from_All (Differ one) others (λ k d within. pairs 0 (suc k) d (omega arith) (omega arith))

pub rest_pairs : (one : List ℕ) (others : List (List ℕ)) → AllPairs Differ (one ∷ others) → AllPairs Differ others
rest_pairs one others pairs = λ i j d lt within. pairs (suc i) (suc j) d (omega arith) (omega arith)

with_one : (set : Oids) (one : List ℕ) (rest : List (List ℕ)) → AllByRecursion (Absent set) rest → AllByRecursion (Differ one) rest → AllByRecursion (Absent (insert set one)) rest
with_one set one [] absent differ = tt
with_one set one (x ∷ rest) absent differ =
    (in_neither set one x absent.0 differ.0, with_one set one rest absent.1 differ.1)

pairs_new : (set : Oids) (list : List (List ℕ)) → AllByRecursion (Absent set) list → AllPairs Differ list → AreNew set list
pairs_new set [] absent pairs = tt
pairs_new set (one ∷ others) absent pairs =
    (absent.0, pairs_new (insert set one) others (with_one set one others absent.1 (first_pairs one others pairs)) (rest_pairs one others pairs))

none_in_empty : (list : List (List ℕ)) → AllByRecursion (Absent empty) list
none_in_empty [] = tt
none_in_empty (one ∷ others) = (contains-empty (slice_cmp nat_cmp) one, none_in_empty others)

pub pairs_are_new : (list : List (List ℕ)) → AllPairs Differ list → AreNew empty list
pairs_are_new list pairs = pairs_new empty list (none_in_empty list) pairs
