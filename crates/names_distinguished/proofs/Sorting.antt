-- Attributes that ascend by their types, and one more in its place.
use Rattle.std.proofs.Common.{◌≡◌, ℕ, List, [], ◌∷◌, ◌++◌, length, true, false, None, refl, sym, ap, ◌∙◌, subst, inl, inr, IsTrue, nat_eq}
use Rattle.std.specs.Prelude.{◌&&◌}
use Rattle.std.specs.List.{AllByRecursion}
use Rattle.std.specs.Ordering.{nat_cmp, is_lt}
use Rattle.std.specs.Cmp.Lexicographic.{slice_cmp, pointwise}
use Rattle.std.proofs.lemmas.Bool.{both_ways, cases_Bool, and_parts, and_from}
use Rattle.std.proofs.lemmas.Slice.Eq.{bytes_eq-Decides}
use Rattle.names_distinguished.specs.DistinguishedName.{ComparedAttribute, value_at}
use Rattle.names_distinguished.specs.Repetition.{comes_before}
use Rattle.names_distinguished.specs.Agreement.{rising, run_of}
use Rattle.names_distinguished.specs.Batch.{rises_from, is_ascending, StartsUpto, StartsApart, IsPlaceOf, IsAdded}
use Rattle.names_distinguished.proofs.Matching.{value_first, value_later, value_none}
use Rattle.names_distinguished.proofs.Ordered.{tied_or}
use Rattle.names_distinguished.proofs.Runs.{one_way, chain, never_itself}

tail_same : (a b : ℕ) (xs ys : List ℕ) → a ∷ xs ≡ b ∷ ys → xs ≡ ys
tail_same a b xs ys e = cc

-- of two types one comes before the other, or they are the same
or_before : (a b : List ℕ) → comes_before a b ≡ false → (a ≡ b → ⊥) → comes_before b a ≡ true
unfolding comes_before
or_before a b upto apart =
    elim (cases_Bool (is_lt (slice_cmp nat_cmp (length b ∷ b) (length a ∷ a)))) [
      | inl t ↦ t
      | inr f ↦ absurd (apart (tail_same (length a) (length b) a b (tied_or (length a ∷ a) (length b ∷ b) (slice_cmp nat_cmp (length a ∷ a) (length b ∷ b)) refl upto f)))
    ]

-- all that ascends behind a type is one run
pub rises_all : (last : List ℕ) (es : List ComparedAttribute) → IsTrue (rises_from last es) → rising last es ≡ es
unfolding rises_from
rises_all last [] h = refl
rises_all last (e ∷ es) h =
    let p = and_parts (comes_before last e.0) (rises_from e.0 es) h in
    rw p.0 (ap (λ (ds : List ComparedAttribute). e ∷ ds) (rises_all e.0 es p.1))

pub run_is_all : (es : List ComparedAttribute) → IsTrue (is_ascending es) → run_of es ≡ es
unfolding is_ascending
run_is_all [] h = refl
run_is_all (e ∷ es) h = ap (λ (ds : List ComparedAttribute). e ∷ ds) (rises_all e.0 es h)

-- what ascends behind a type that doesn't come before this one has no value of it
none_behind : (kind last : List ℕ) (es : List ComparedAttribute) → comes_before last kind ≡ false → IsTrue (rises_from last es) → value_at kind es ≡ None
unfolding rises_from
none_behind kind last [] upto h = value_none kind
none_behind kind last (e ∷ es) upto h =
    let p = and_parts (comes_before last e.0) (rises_from e.0 es) h in
    value_later kind e es (λ same. both_ways (comes_before last e.0) (subst (λ (k : List ℕ). comes_before last k ≡ false) same upto) p.0)
    ∙ none_behind kind e.0 es (chain e.0 last kind (one_way last e.0 p.0) upto) p.1

-- one more in its place, behind an attribute
rises_with : (e : ComparedAttribute) (last : List ℕ) (front back : List ComparedAttribute) → comes_before last e.0 ≡ true → AllByRecursion (λ d. comes_before d.0 e.0 ≡ true) front → StartsUpto e.0 back → StartsApart e.0 back
    → IsTrue (rises_from last (front ++ back)) → IsTrue (rises_from last (front ++ e ∷ back))
unfolding rises_from
rises_with e last [] [] before all upto apart h = and_from (comes_before last e.0) true before refl
rises_with e last [] (d ∷ ds) before all upto apart h =
    let p = and_parts (comes_before last d.0) (rises_from d.0 ds) h in
    and_from (comes_before last e.0) (comes_before e.0 d.0 && rises_from d.0 ds) before (and_from (comes_before e.0 d.0) (rises_from d.0 ds) (or_before d.0 e.0 upto apart) p.1)
rises_with e last (d ∷ ds) back before all upto apart h =
    let p = and_parts (comes_before last d.0) (rises_from d.0 (ds ++ back)) h in
    and_from (comes_before last d.0) (rises_from d.0 (ds ++ e ∷ back)) p.0 (rises_with e d.0 ds back all.0 all.1 upto apart p.1)

pub ascends_with : (e : ComparedAttribute) (front back : List ComparedAttribute) → AllByRecursion (λ d. comes_before d.0 e.0 ≡ true) front → StartsUpto e.0 back → StartsApart e.0 back
    → IsTrue (is_ascending (front ++ back)) → IsTrue (is_ascending (front ++ e ∷ back))
unfolding is_ascending rises_from
ascends_with e [] [] all upto apart h = refl
ascends_with e [] (d ∷ ds) all upto apart h = and_from (comes_before e.0 d.0) (rises_from d.0 ds) (or_before d.0 e.0 upto apart) h
ascends_with e (d ∷ ds) back all upto apart h = rises_with e d.0 ds back all.0 all.1 upto apart h

-- none of the attributes had its type
none_in_back : (kind : List ℕ) (back : List ComparedAttribute) → StartsUpto kind back → StartsApart kind back → IsTrue (is_ascending back) → value_at kind back ≡ None
unfolding is_ascending
none_in_back kind [] upto apart h = value_none kind
none_in_back kind (d ∷ ds) upto apart h = value_later kind d ds (λ same. apart (sym same)) ∙ none_behind kind d.0 ds upto h

ascends_behind : (last : List ℕ) (front back : List ComparedAttribute) → IsTrue (rises_from last (front ++ back)) → IsTrue (is_ascending back)
unfolding is_ascending rises_from
ascends_behind last [] [] h = refl
ascends_behind last [] (d ∷ ds) h = (and_parts (comes_before last d.0) (rises_from d.0 ds) h).1
ascends_behind last (e ∷ es) back h = ascends_behind e.0 es back (and_parts (comes_before last e.0) (rises_from e.0 (es ++ back)) h).1

back_ascends : (front back : List ComparedAttribute) → IsTrue (is_ascending (front ++ back)) → IsTrue (is_ascending back)
unfolding is_ascending
back_ascends [] back h = h
back_ascends (e ∷ es) back h = ascends_behind e.0 es back h

none_in_front_of : (kind : List ℕ) (front back : List ComparedAttribute) → AllByRecursion (λ d. comes_before d.0 kind ≡ true) front → value_at kind (front ++ back) ≡ value_at kind back
none_in_front_of kind [] back all = refl
none_in_front_of kind (d ∷ ds) back all = value_later kind d (ds ++ back) (λ same. never_itself d.0 kind all.0 (sym same)) ∙ none_in_front_of kind ds back all.1

absent_in : (kind : List ℕ) (front back : List ComparedAttribute) → IsPlaceOf kind front back → StartsApart kind back → IsTrue (is_ascending (front ++ back)) → value_at kind (front ++ back) ≡ None
absent_in kind front back place apart h = none_in_front_of kind front back place.before ∙ none_in_back kind back place.upto apart (back_ascends front back h)

-- the values of the whole, and of the one that was added
same_kinds : (kind : List ℕ) (e : ComparedAttribute) (front back : List ComparedAttribute) → (kind ≡ e.0 → ⊥) → value_at kind (front ++ e ∷ back) ≡ value_at kind (front ++ back)
same_kinds kind e [] back other = value_later kind e back other
same_kinds kind e (d ∷ ds) back other =
    elim (cases_Bool (pointwise nat_eq kind d.0)) [
      | inl t ↦ let same = (bytes_eq-Decides kind d.0).0 t in value_first kind d (ds ++ e ∷ back) same ∙ sym (value_first kind d (ds ++ back) same)
      | inr f ↦
          let unlike = λ (same : kind ≡ d.0). both_ways (pointwise nat_eq kind d.0) f ((bytes_eq-Decides kind d.0).1 same) in
          value_later kind d (ds ++ e ∷ back) unlike ∙ (same_kinds kind e ds back other ∙ sym (value_later kind d (ds ++ back) unlike))
    ]

added_values : (e : ComparedAttribute) (front back : List ComparedAttribute) → AllByRecursion (λ d. comes_before d.0 e.0 ≡ true) front → (kind : List ℕ) → value_at kind (front ++ e ∷ back) ≡ value_at kind (e ∷ front ++ back)
added_values e front back all kind =
    elim (cases_Bool (pointwise nat_eq kind e.0)) [
      | inl t ↦
          let same = (bytes_eq-Decides kind e.0).0 t in
          ap (λ (k : List ℕ). value_at k (front ++ e ∷ back)) same
          ∙ (none_in_front_of e.0 front (e ∷ back) all ∙ (value_first e.0 e back refl ∙ sym (value_first kind e (front ++ back) same)))
      | inr f ↦
          let unlike = λ (same : kind ≡ e.0). both_ways (pointwise nat_eq kind e.0) f ((bytes_eq-Decides kind e.0).1 same) in
          same_kinds kind e front back unlike ∙ sym (value_later kind e (front ++ back) unlike)
    ]

pub is_added : (e : ComparedAttribute) (old new front back : List ComparedAttribute) → old ≡ front ++ back → new ≡ front ++ e ∷ back → IsPlaceOf e.0 front back → StartsApart e.0 back → IsTrue (is_ascending old) → IsAdded e old new
is_added e old new front back old_is new_is place apart up = record {
  absent = ap (value_at e.0) old_is ∙ absent_in e.0 front back place apart (subst (λ (es : List ComparedAttribute). IsTrue (is_ascending es)) old_is up);
  values = λ kind. ap (value_at kind) new_is ∙ (added_values e front back place.before kind ∙ ap (λ (es : List ComparedAttribute). value_at kind (e ∷ es)) (sym old_is));
}

pub still_ascends : (e : ComparedAttribute) (old new front back : List ComparedAttribute) → old ≡ front ++ back → new ≡ front ++ e ∷ back → IsPlaceOf e.0 front back → StartsApart e.0 back → IsTrue (is_ascending old) → IsTrue (is_ascending new)
still_ascends e old new front back old_is new_is place apart up =
    subst (λ (es : List ComparedAttribute). IsTrue (is_ascending es)) (sym new_is)
    (ascends_with e front back place.before place.upto apart (subst (λ (es : List ComparedAttribute). IsTrue (is_ascending es)) old_is up))
