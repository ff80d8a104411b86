-- Attributes taken into a batch one after the other.
use Rattle.std.proofs.Common.{IsTrue, ◌≡◌, ◌<◌, ◌+◌, ℕ, List, [], ◌∷◌, ◌++◌, length, map, take, drop, get_or, true, false, Option, Some, None, refl, sym, ap, ◌∙◌, subst, inl, inr, arith, append_assoc, nat_eq}
use Rattle.std.specs.Prelude.{is_some, option_map}
use Rattle.std.specs.List.{AllByRecursion, insert}
use Rattle.std.specs.Cmp.Lexicographic.{pointwise}
use Rattle.std.proofs.lemmas.Bool.{both_ways, cases_Bool}
use Rattle.std.proofs.lemmas.List.{take_more, drop_more, map-append, take-append-drop}
use Rattle.std.proofs.lemmas.Slice.Eq.{bytes_eq-Decides}
use Rattle.names_distinguished.specs.declared.attribute.Attribute.{Attribute}
use Rattle.names_distinguished.specs.AttributeValue.{compared_value}
use Rattle.names_distinguished.specs.DistinguishedName.{ComparedAttribute, value_at}
use Rattle.names_distinguished.specs.NameView.{entry_of}
use Rattle.names_distinguished.specs.Repetition.{Placed, comes_before, IsNew, AreNew, IsRest}
use Rattle.names_distinguished.specs.Agreement.{SearchesOn}
use Rattle.names_distinguished.specs.Batch.{is_ascending, IsPlaceOf, StartsUpto, StartsApart, IsAdded, AreHeld, HaveOther, AreUnlike, BeginsAt, IsBatchOf, IsBatchOfSet, NoneBefore}
use Rattle.names_distinguished.proofs.Matching.{value_first, value_later, value_none}
use Rattle.names_distinguished.proofs.Agreement.{value_in_rest, value_in_first, value_or_none}
use Rattle.names_distinguished.proofs.Runs.{not_before_itself}
use Rattle.names_distinguished.proofs.Sorting.{is_added, still_ascends}

all_and : {X : Type 0} (P : X → Type 0) (xs : List X) (x : X) → AllByRecursion P xs → P x → AllByRecursion P (xs ++ x ∷ [])
all_and P [] x h p = (p, tt)
all_and P (y ∷ ys) x h p = (h.0, all_and P ys x h.1 p)

-- the place of a type
abbrev pub AllBefore : List ℕ → List Attribute → Type 0
AllBefore kind attributes = AllByRecursion (λ (e : ComparedAttribute). comes_before e.0 kind ≡ true) (map entry_of attributes)

pub place_more : (kind : List ℕ) (xs : List Attribute) (i : ℕ) (d : Attribute) → i < length xs → AllBefore kind (take i xs) → comes_before (get_or xs i d).kind.now kind ≡ true → AllBefore kind (take (i + 1) xs)
place_more kind xs i d lt h before =
    subst (λ (es : List ComparedAttribute). AllByRecursion (λ (e : ComparedAttribute). comes_before e.0 kind ≡ true) es)
    (sym (ap (map entry_of) (take_more xs i d lt) ∙ map-append entry_of (take i xs) (get_or xs i d ∷ [])))
    (all_and (λ (e : ComparedAttribute). comes_before e.0 kind ≡ true) (map entry_of (take i xs)) (entry_of (get_or xs i d)) h before)

pub place_here : (kind : List ℕ) (xs : List Attribute) (i : ℕ) (d : Attribute) → i < length xs → comes_before (get_or xs i d).kind.now kind ≡ false → StartsUpto kind (map entry_of (drop i xs))
place_here kind xs i d lt upto = subst (λ (attributes : List Attribute). StartsUpto kind (map entry_of attributes)) (sym (drop_more xs i d lt)) upto

pub free_here : (kind : List ℕ) (xs : List Attribute) (i : ℕ) (d : Attribute) → i < length xs → ((get_or xs i d).kind.now ≡ kind → ⊥) → StartsApart kind (map entry_of (drop i xs))
free_here kind xs i d lt apart = subst (λ (attributes : List Attribute). StartsApart kind (map entry_of attributes)) (sym (drop_more xs i d lt)) apart

-- one more in its place
pub added_at : (xs slice slice_too new : List Attribute) (a : Attribute) (i : ℕ) → slice ≡ xs → slice_too ≡ xs → IsPlaceOf a.kind.now (map entry_of (take i slice)) (map entry_of (drop i slice))
    → StartsApart a.kind.now (map entry_of (drop i slice_too)) → new ≡ insert xs i a → IsTrue (is_ascending (map entry_of xs))
    → IsAdded (entry_of a) (map entry_of xs) (map entry_of new) × IsTrue (is_ascending (map entry_of new))
added_at xs slice slice_too new a i is is_too place apart inserted up =
    let front = map entry_of (take i xs) in
    let back = map entry_of (drop i xs) in
    let old_is : map entry_of xs ≡ front ++ back = ap (map entry_of) (sym (take-append-drop i xs)) ∙ map-append entry_of (take i xs) (drop i xs) in
    let new_is : map entry_of new ≡ front ++ entry_of a ∷ back = ap (map entry_of) inserted ∙ map-append entry_of (take i xs) (a ∷ drop i xs) in
    let place_is = subst (λ (ys : List Attribute). IsPlaceOf a.kind.now (map entry_of (take i ys)) (map entry_of (drop i ys))) is place in
    let apart_is = subst (λ (ys : List Attribute). StartsApart a.kind.now (map entry_of (drop i ys))) is_too apart in (
      is_added (entry_of a) (map entry_of xs) (map entry_of new) front back old_is new_is place_is apart_is up,
      still_ascends (entry_of a) (map entry_of xs) (map entry_of new) front back old_is new_is place_is apart_is up,
    )

-- what a batch has, it still has with one more
held_in : (kind : List ℕ) (e : ComparedAttribute) (old new : List ComparedAttribute) → IsAdded e old new → is_some (value_at kind old) ≡ true → is_some (value_at kind new) ≡ true
held_in kind e old new added h =
    elim (cases_Bool (pointwise nat_eq kind e.0)) [
      | inl t ↦ ap is_some (added.values kind ∙ value_first kind e old ((bytes_eq-Decides kind e.0).0 t))
      | inr f ↦ ap is_some (added.values kind ∙ value_later kind e old (λ same. both_ways (pointwise nat_eq kind e.0) f ((bytes_eq-Decides kind e.0).1 same))) ∙ h
    ]

all_held : (e : ComparedAttribute) (old new : List ComparedAttribute) (xs : List Placed) → IsAdded e old new → AreHeld old xs → AreHeld new xs
all_held e old new [] added h = tt
all_held e old new (x ∷ xs) added h = (held_in x.1 e old new added h.0, all_held e old new xs added h.1)

held_itself : (e : ComparedAttribute) (old new : List ComparedAttribute) → IsAdded e old new → is_some (value_at e.0 new) ≡ true
held_itself e old new added = ap is_some (added.values e.0 ∙ value_first e.0 e old refl)

-- a type that the batch has not is none of those that it has
unlike_held : (kind : List ℕ) (batch : List ComparedAttribute) (one : List ℕ) → value_at kind batch ≡ None → is_some (value_at one batch) ≡ true → one ≡ kind → ⊥
unlike_held kind batch one none held same =
    both_ways (is_some (value_at kind batch)) (ap is_some none) (subst (λ (k : List ℕ). is_some (value_at k batch) ≡ true) same held)

unlike_all : (kind : List ℕ) (batch : List ComparedAttribute) (xs : List Placed) → value_at kind batch ≡ None → AreHeld batch xs → HaveOther kind xs
unlike_all kind batch [] none held = tt
unlike_all kind batch (x ∷ xs) none held = (unlike_held kind batch x.1 none held.0, unlike_all kind batch xs none held.1)

unlike_more : (batch : List ComparedAttribute) (xs : List Placed) (x : Placed) → AreUnlike xs → AreHeld batch xs → value_at x.1 batch ≡ None → AreUnlike (xs ++ x ∷ [])
unlike_more batch [] x h held none = (tt, tt)
unlike_more batch (y ∷ ys) x h held none = (
  all_and (λ (z : Placed). z.1 ≡ y.1 → ⊥) ys x h.0 (λ same. unlike_held x.1 batch y.1 none held.0 (sym same)),
  unlike_more batch ys x h.1 held.1 none,
)

-- the walk that takes types
pub record IsTaken (kinds rest : List Placed) (batch : List ComparedAttribute) : Type 0 where
  pub taken : List Placed
  pub joined : kinds ≡ taken ++ rest
  pub held : AreHeld batch taken
  pub unlike : AreUnlike taken

pub taken_more : (kinds rest others : List Placed) (x : Placed) (e : ComparedAttribute) (old new : List ComparedAttribute) → IsTaken kinds rest old → rest ≡ x ∷ others → e.0 ≡ x.1 → IsAdded e old new → IsTaken kinds others new
taken_more kinds rest others x e old new h is same added = record {
  taken = h.taken ++ x ∷ [];
  joined = h.joined ∙ (ap (λ (xs : List Placed). h.taken ++ xs) is ∙ sym (append_assoc h.taken (x ∷ []) others));
  held = all_and (λ (y : Placed). is_some (value_at y.1 new) ≡ true) h.taken x (all_held e old new h.taken added h.held) (subst (λ (k : List ℕ). is_some (value_at k new) ≡ true) same (held_itself e old new added));
  unlike = unlike_more old h.taken x h.unlike h.held (subst (λ (k : List ℕ). value_at k old ≡ None) same added.absent);
}

pub taken_all : (kinds rest : List Placed) (batch : List ComparedAttribute) (limit : ℕ) → IsTaken kinds rest batch → rest ≡ [] → IsBatchOf kinds limit batch
taken_all kinds rest batch limit h is = record {
  taken = h.taken;
  rest = rest;
  joined = h.joined;
  begins = subst (BeginsAt limit) (sym is) tt;
  held = h.held;
  unlike = h.unlike;
}

-- types that are new, where none of the earlier ones is in the batch
NoneIn : List ComparedAttribute → List Placed → Type 0
NoneIn batch earlier = AllByRecursion (λ (x : Placed). value_at x.1 batch ≡ None) earlier

none_in : (start : ℕ) (batch : List ComparedAttribute) (earlier rest : List Placed) → AllByRecursion (λ (x : Placed). x.0 < start) earlier → NoneBefore start batch (earlier ++ rest) → NoneIn batch earlier
unfolding NoneIn
none_in start batch [] rest below h = tt
none_in start batch (x ∷ xs) rest below h = let here = h below.0 in (here.0, none_in start batch xs rest below.1 here.1)

Unseen : List Placed → List Placed → Type 0
Unseen seen taken = AllByRecursion (λ (e : Placed). HaveOther e.1 taken) seen

unseen : (batch : List ComparedAttribute) (seen taken : List Placed) → NoneIn batch seen → AreHeld batch taken → Unseen seen taken
unfolding NoneIn Unseen
unseen batch [] taken none held = tt
unseen batch (e ∷ es) taken none held = (unlike_all e.1 batch taken none.0 held, unseen batch es taken none.1 held)

unseen_tail : (x : Placed) (xs seen : List Placed) → Unseen seen (x ∷ xs) → HaveOther x.1 xs → Unseen (seen ++ x ∷ []) xs
unfolding Unseen
unseen_tail x xs [] h unlike = (unlike, tt)
unseen_tail x xs (e ∷ es) h unlike = (h.0.1, unseen_tail x xs es h.1 unlike)

new_behind : (x : Placed) (xs rest seen : List Placed) → Unseen seen (x ∷ xs) → IsNew x.0 x.1 (seen ++ x ∷ rest)
unfolding Unseen
new_behind x xs rest [] h = λ apart. absurd (apart refl)
new_behind x xs rest (e ∷ es) h = λ other. ((λ same. h.0.0 (sym same)), new_behind x xs rest es h.1)

begins_new : (all rest : List Placed) (limit : ℕ) → BeginsAt limit rest → AreNew all limit rest
begins_new all [] limit begins = tt
begins_new all (x ∷ xs) limit begins = λ below. absurd (omega arith)

new_taken : (limit : ℕ) (seen taken rest : List Placed) → Unseen seen taken → AreUnlike taken → BeginsAt limit rest → AreNew (seen ++ (taken ++ rest)) limit (taken ++ rest)
new_taken limit seen [] rest h unlike begins = begins_new (seen ++ rest) rest limit begins
new_taken limit seen (x ∷ xs) rest h unlike begins = λ below. (
  new_behind x xs (xs ++ rest) seen h,
  subst (λ (all : List Placed). AreNew all limit (xs ++ rest)) (append_assoc seen (x ∷ []) (xs ++ rest))
      (new_taken limit (seen ++ x ∷ []) xs rest (unseen_tail x xs seen h unlike.0) unlike.1 begins),
)

pub batch_new : (all run : List Placed) (start limit : ℕ) (batch : List ComparedAttribute) → IsRest all run start → IsBatchOf run limit batch → NoneBefore start batch all → AreNew all limit run
batch_new all run start limit batch h taken none =
    let unseen_all = unseen batch h.earlier taken.taken (none_in start batch h.earlier run h.below (subst (NoneBefore start batch) h.joined none)) taken.held in
    subst (λ (list : List Placed). AreNew list limit run) (sym h.joined)
    (subst (λ (xs : List Placed). AreNew (h.earlier ++ xs) limit xs) (sym taken.joined) (new_taken limit h.earlier taken.taken taken.rest unseen_all taken.unlike taken.begins))

-- the walk that takes attributes of a set
same_in_front : (kind : List ℕ) (e : ComparedAttribute) (front old : List ComparedAttribute) → value_at kind old ≡ value_at kind front → value_at e.0 old ≡ None → value_at kind (e ∷ old) ≡ value_at kind (front ++ e ∷ [])
same_in_front kind e front old same absent =
    elim (value_or_none (value_at kind front)) [
      | inl n ↦
          elim (cases_Bool (pointwise nat_eq kind e.0)) [
            | inl t ↦ let is = (bytes_eq-Decides kind e.0).0 t in value_first kind e old is ∙ sym (value_in_rest kind front (e ∷ []) n ∙ value_first kind e [] is)
            | inr f ↦
                let other = λ (is : kind ≡ e.0). both_ways (pointwise nat_eq kind e.0) f ((bytes_eq-Decides kind e.0).1 is) in
                value_later kind e old other ∙ (same ∙ (n ∙ sym (value_in_rest kind front (e ∷ []) n ∙ (value_later kind e [] other ∙ value_none kind))))
          ]
      | inr (v, s) ↦
          value_later kind e old (λ is. let z : None ≡ Some v = sym absent ∙ (ap (λ (k : List ℕ). value_at k old) (sym is) ∙ (same ∙ s)) in absurd cc)
          ∙ (same ∙ (s ∙ sym (value_in_first kind front (e ∷ []) v s)))
    ]

pub set_begins : (set others batch : List ComparedAttribute) (first : ComparedAttribute) → set ≡ first ∷ others → batch ≡ first ∷ [] → IsBatchOfSet set others batch
set_begins set others batch first is one = record { first = first; others = []; joined = is; values = λ kind. ap (value_at kind) one }

pub set_more : (set rest others : List ComparedAttribute) (e : ComparedAttribute) (old new : List ComparedAttribute) → IsBatchOfSet set rest old → rest ≡ e ∷ others → IsAdded e old new → IsBatchOfSet set others new
set_more set rest others e old new h is added = record {
  first = h.first;
  others = h.others ++ e ∷ [];
  joined = h.joined ∙ (ap (λ (es : List ComparedAttribute). (h.first ∷ h.others) ++ es) is ∙ sym (append_assoc (h.first ∷ h.others) (e ∷ []) others));
  values = λ kind. added.values kind ∙ same_in_front kind e (h.first ∷ h.others) old (h.values kind) added.absent;
}

-- the walk over the earlier types
pub record IsPassed (start : ℕ) (batch : List ComparedAttribute) (all left : List Placed) : Type 0 where
  pub back : NoneBefore start batch left → NoneBefore start batch all

pub passed_more : (start : ℕ) (batch : List ComparedAttribute) (all left others : List Placed) (x : Placed) → IsPassed start batch all left → left ≡ x ∷ others → value_at x.1 batch ≡ None → IsPassed start batch all others
passed_more start batch all left others x h is none = record { back = λ later. h.back (subst (NoneBefore start batch) (sym is) (λ below. (none, later))) }

pub passed_all : (start : ℕ) (batch : List ComparedAttribute) (all left : List Placed) → IsPassed start batch all left → left ≡ [] → NoneBefore start batch all
passed_all start batch all left h is = h.back (subst (NoneBefore start batch) (sym is) tt)

pub not_found : (kind : List ℕ) (batch run rest : List ComparedAttribute) (o : Option Attribute) → option_map compared_value o ≡ value_at kind rest → is_some o ≡ false → SearchesOn kind run rest → run ≡ batch → value_at kind batch ≡ None
not_found kind batch run rest None e f c is = ap (value_at kind) (sym is) ∙ (c.same kind (not_before_itself kind) ∙ sym e)
not_found kind batch run rest (Some a) e f c is = absurd cc
