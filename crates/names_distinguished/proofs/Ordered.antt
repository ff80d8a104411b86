-- Attributes that were sorted by their types, and of those of one type the first.
use Rattle.std.proofs.Common.{◌≡◌, ◌<◌, ◌≤◌, ◌+◌, ◌-◌, ℕ, zero, suc, List, [], ◌∷◌, ◌++◌, length, take, map, filter, Bool, true, false, not, ◌&&◌, refl, sym, ◌∙◌, ap, subst, inl, inr, arith, Option, Some, None, get_or, IsTrue, T, nat_eq}
use Rattle.std.specs.Prelude.{is_some, ◌↔◌}
use Rattle.std.specs.List.{AllByRecursion}
use Rattle.std.specs.List.Sorted.{ties, IsStableBy}
use Rattle.std.specs.declared.cmp.Ordering.{Ordering}
use Rattle.std.specs.declared.cmp.Ordering.TheVariants.{Less, Equal, Greater}
use Rattle.std.specs.Ordering.{nat_cmp, eq_by_cmp, is_lt, is_eq, ordering_reverse}
use Rattle.std.specs.Cmp.{IsStrictWeakOrder}
use Rattle.std.specs.Cmp.Lexicographic.{slice_cmp, pointwise}
use Rattle.std.proofs.lemmas.Slice.Eq.{bytes_eq-Decides}
use Rattle.std.specs.FinMap.{find, is_sorted, from_sorted, entries, entries-from_sorted, get-from_sorted, slice_cmp-IsAntisymmetric, nat_cmp-IsAntisymmetric}
use Rattle.std.specs.FinMap.Entries.{below_all}
use Rattle.std.proofs.lemmas.Cmp.{nat_list_cmp_total}
use Rattle.std.proofs.lemmas.Bool.{cases_Bool, cond-true, cond-false, both_ways}
use Rattle.std.proofs.lemmas.List.{take_more, map-append, get_or-take, get_or_default, take_all, length-take-le}
use Rattle.std.proofs.lemmas.List.Elements.{recursion_from_All, All-from_get_or}
use Rattle.std.proofs.lemmas.List.Sorted.{ranks_by, sorted_far}
use Rattle.names_distinguished.specs.declared.attribute.Attribute.{Attribute}
use Rattle.names_distinguished.specs.AttributeValue.{ComparedValue, compared_value}
use Rattle.names_distinguished.specs.DistinguishedName.{ComparedAttribute, RdnMap, rdn_map, value_at}
use Rattle.names_distinguished.specs.NameView.{entry_of}
use Rattle.names_distinguished.specs.AttributeOrder.{has_lesser_kind, AscendsByKind, HasSameValues, EndsInKind}
use Rattle.names_distinguished.proofs.Matching.{get_rdn, at_or_none, same_by_values, value_none, value_first, value_later}

order : List ℕ → List ℕ → Ordering
order a b = slice_cmp nat_cmp a b

pub kinds_rank : IsStrictWeakOrder has_lesser_kind
kinds_rank = ranks_by nat_list_cmp_total (λ (a : Attribute). a.kind.now)

-- of a list the value of the first that ties
first_value : List Attribute → Option ComparedValue
first_value [] = None
first_value (a ∷ rest) = Some (compared_value a)

neither : (r s : Ordering) → s ≡ ordering_reverse r → (not (is_lt r) && not (is_lt s)) ≡ is_eq r
neither Less s e = refl
neither Equal s e = ap (λ (o : Ordering). not (is_lt o)) e
neither Greater s e = ap (λ (o : Ordering). not (is_lt o)) e

ties_is : (a x : Attribute) → ties has_lesser_kind a x ≡ eq_by_cmp (slice_cmp nat_cmp) a.kind.now x.kind.now
ties_is a x = neither (slice_cmp nat_cmp a.kind.now x.kind.now) (slice_cmp nat_cmp x.kind.now a.kind.now) (nat_list_cmp_total.antisymm x.kind.now a.kind.now)

value_of_ties : (a : Attribute) (xs : List Attribute) → value_at a.kind.now (map entry_of xs) ≡ first_value (filter (ties has_lesser_kind a) xs)
unfolding value_at first_value
value_of_ties a [] = refl
value_of_ties a (x ∷ xs) =
    elim (cases_Bool (ties has_lesser_kind a x)) [
      | inl t ↦ cond-true (eq_by_cmp (slice_cmp nat_cmp) a.kind.now x.kind.now) (Some (compared_value x)) (find (slice_cmp nat_cmp) a.kind.now (map entry_of xs)) (sym (ties_is a x) ∙ t)
          ∙ sym (ap first_value (cond-true (ties has_lesser_kind a x) (x ∷ filter (ties has_lesser_kind a) xs) (filter (ties has_lesser_kind a) xs) t))
      | inr f ↦ cond-false (eq_by_cmp (slice_cmp nat_cmp) a.kind.now x.kind.now) (Some (compared_value x)) (find (slice_cmp nat_cmp) a.kind.now (map entry_of xs)) (sym (ties_is a x) ∙ f)
          ∙ (value_of_ties a xs
          ∙ sym (ap first_value (cond-false (ties has_lesser_kind a x) (x ∷ filter (ties has_lesser_kind a) xs) (filter (ties has_lesser_kind a) xs) f)))
    ]

each_kind : (P : List ℕ → Type 0) → ((a : Attribute) → P a.kind.now) → (xs : List Attribute) → AllByRecursion (λ e. P e.0) (map entry_of xs)
each_kind P h [] = tt
each_kind P h (a ∷ xs) = (h a, each_kind P h xs)

-- a stable sort keeps the first of each type
pub stable_values : (xs ys : List Attribute) → IsStableBy has_lesser_kind xs ys → HasSameValues xs ys
stable_values xs ys stable kind =
    let Same : List ℕ → Type 0 = λ k. value_at k (map entry_of ys) ≡ value_at k (map entry_of xs) in
    let at = λ (a : Attribute). value_of_ties a ys ∙ (ap first_value (stable a) ∙ sym (value_of_ties a xs)) in
    elim (at_or_none Same (map entry_of xs) (each_kind Same at xs) kind) [
      | inl n ↦ elim (at_or_none Same (map entry_of ys) (each_kind Same at ys) kind) [ inl m ↦ m ∙ sym n | inr g ↦ g ]
      | inr g ↦ g
    ]

-- the entries that were taken: they ascend, they have the values of all, and they are below what all are below
abbrev pub AllBelow : List ComparedAttribute → List ℕ → Type 0
AllBelow es kind = AllByRecursion (λ e. slice_cmp nat_cmp e.0 kind ≡ Less) es

pub record IsFirstOfEach (done taken : List ComparedAttribute) : Type 0 where
  pub ascends : T (is_sorted (slice_cmp nat_cmp) taken)
  pub values : (kind : List ℕ) → value_at kind taken ≡ value_at kind done
  pub below : (kind : List ℕ) → AllBelow done kind → AllBelow taken kind

both : (a b : Bool) → T a → T b → T (a && b)
both true b p q = q
both false b p q = p

first_part : (a b : Bool) → T (a && b) → T a
first_part true b p = tt
first_part false b p = p

second_part : (a b : Bool) → T (a && b) → T b
second_part true b p = p
second_part false b p = absurd p

lesser : (o : Ordering) → o ≡ Less → T (is_lt o)
lesser o e = subst (λ (r : Ordering). T (is_lt r)) (sym e) tt

below_push : (x : List ℕ) (es : List ComparedAttribute) (e : ComparedAttribute) → T (below_all (slice_cmp nat_cmp) x es) → slice_cmp nat_cmp x e.0 ≡ Less → T (below_all (slice_cmp nat_cmp) x (es ++ e ∷ []))
below_push x [] e h lt = both (is_lt (slice_cmp nat_cmp x e.0)) true (lesser (slice_cmp nat_cmp x e.0) lt) tt
below_push x (d ∷ es) e h lt =
    both (is_lt (slice_cmp nat_cmp x d.0)) (below_all (slice_cmp nat_cmp) x (es ++ e ∷ []))
    (first_part (is_lt (slice_cmp nat_cmp x d.0)) (below_all (slice_cmp nat_cmp) x es) h)
    (below_push x es e (second_part (is_lt (slice_cmp nat_cmp x d.0)) (below_all (slice_cmp nat_cmp) x es) h) lt)

sorted_push : (es : List ComparedAttribute) (e : ComparedAttribute) → T (is_sorted (slice_cmp nat_cmp) es) → AllBelow es e.0 → T (is_sorted (slice_cmp nat_cmp) (es ++ e ∷ []))
sorted_push [] e h b = tt
sorted_push (d ∷ es) e h b =
    both (below_all (slice_cmp nat_cmp) d.0 (es ++ e ∷ [])) (is_sorted (slice_cmp nat_cmp) (es ++ e ∷ []))
    (below_push d.0 es e (first_part (below_all (slice_cmp nat_cmp) d.0 es) (is_sorted (slice_cmp nat_cmp) es) h) b.0)
    (sorted_push es e (second_part (below_all (slice_cmp nat_cmp) d.0 es) (is_sorted (slice_cmp nat_cmp) es) h) b.1)

below_append : (kind : List ℕ) (es : List ComparedAttribute) (e : ComparedAttribute) → AllBelow (es ++ e ∷ []) kind → AllBelow es kind × (slice_cmp nat_cmp e.0 kind ≡ Less)
below_append kind [] e h = (tt, h.0)
below_append kind (d ∷ es) e h = let rest = below_append kind es e h.1 in ((h.0, rest.0), rest.1)

append_below : (kind : List ℕ) (es : List ComparedAttribute) (e : ComparedAttribute) → AllBelow es kind → slice_cmp nat_cmp e.0 kind ≡ Less → AllBelow (es ++ e ∷ []) kind
append_below kind [] e h lt = (lt, tt)
append_below kind (d ∷ es) e h lt = (h.0, append_below kind es e h.1 lt)

-- the first of two values
either : Option ComparedValue → Option ComparedValue → Option ComparedValue
either None w = w
either (Some v) w = Some v

-- one entry more, at the end: it counts where no entry before it has its type
value_end : (kind : List ℕ) (es : List ComparedAttribute) (e : ComparedAttribute) → value_at kind (es ++ e ∷ []) ≡ either (value_at kind es) (value_at kind (e ∷ []))
unfolding value_at either
value_end kind [] e = refl
value_end kind (d ∷ es) e =
    elim (cases_Bool (eq_by_cmp (slice_cmp nat_cmp) kind d.0)) [
      | inl t ↦ cond-true (eq_by_cmp (slice_cmp nat_cmp) kind d.0) (Some d.1) (find (slice_cmp nat_cmp) kind (es ++ e ∷ [])) t
          ∙ sym (ap (λ (o : Option ComparedValue). either o (find (slice_cmp nat_cmp) kind (e ∷ []))) (cond-true (eq_by_cmp (slice_cmp nat_cmp) kind d.0) (Some d.1) (find (slice_cmp nat_cmp) kind es) t))
      | inr f ↦ cond-false (eq_by_cmp (slice_cmp nat_cmp) kind d.0) (Some d.1) (find (slice_cmp nat_cmp) kind (es ++ e ∷ [])) f
          ∙ (value_end kind es e
          ∙ sym (ap (λ (o : Option ComparedValue). either o (find (slice_cmp nat_cmp) kind (e ∷ []))) (cond-false (eq_by_cmp (slice_cmp nat_cmp) kind d.0) (Some d.1) (find (slice_cmp nat_cmp) kind es) f)))
    ]

value_append : (kind : List ℕ) (es ds : List ComparedAttribute) (e : ComparedAttribute) → value_at kind es ≡ value_at kind ds → value_at kind (es ++ e ∷ []) ≡ value_at kind (ds ++ e ∷ [])
value_append kind es ds e same =
    value_end kind es e
    ∙ (ap (λ (o : Option ComparedValue). either o (value_at kind (e ∷ []))) same ∙ sym (value_end kind ds e))

-- an entry of a type that stands there already counts nowhere
some_either : (o w : Option ComparedValue) → is_some o ≡ true → either o w ≡ o
unfolding either
some_either (Some v) w h = refl
some_either None w h = cc

none_either : (o w : Option ComparedValue) → w ≡ None → either o w ≡ o
unfolding either
none_either (Some v) w h = refl
none_either None w h = h

repeated_value : (kind : List ℕ) (es : List ComparedAttribute) (e : ComparedAttribute) → is_some (value_at e.0 es) ≡ true → value_at kind (es ++ e ∷ []) ≡ value_at kind es
repeated_value kind es e there =
    elim (cases_Bool (pointwise nat_eq kind e.0)) [
      | inl t ↦
          let same = (bytes_eq-Decides kind e.0).0 t in
          value_end kind es e ∙ some_either (value_at kind es) (value_at kind (e ∷ [])) (ap (λ (k : List ℕ). is_some (value_at k es)) same ∙ there)
      | inr f ↦
          let apart = value_later kind e [] (λ same. both_ways (pointwise nat_eq kind e.0) f ((bytes_eq-Decides kind e.0).1 same)) in
          value_end kind es e ∙ none_either (value_at kind es) (value_at kind (e ∷ [])) (apart ∙ value_none kind)
    ]

pub taken_more : (done taken : List ComparedAttribute) (e : ComparedAttribute) → IsFirstOfEach done taken → AllBelow done e.0 → IsFirstOfEach (done ++ e ∷ []) (taken ++ e ∷ [])
taken_more done taken e h b = record {
  ascends = sorted_push taken e h.ascends (h.below e.0 b);
  values = λ kind. value_append kind taken done e (h.values kind);
  below = λ kind all.
      let parts = below_append kind done e all in
      append_below kind taken e (h.below kind parts.0) parts.1;
}

pub taken_same : (done taken : List ComparedAttribute) (e : ComparedAttribute) → IsFirstOfEach done taken → is_some (value_at e.0 done) ≡ true → IsFirstOfEach (done ++ e ∷ []) taken
taken_same done taken e h there = record {
  ascends = h.ascends;
  values = λ kind. h.values kind ∙ sym (repeated_value kind done e there);
  below = λ kind all. h.below kind (below_append kind done e all).0;
}

-- entries that ascend and have the values of all are those of the map
pub taken_all : (done taken : List ComparedAttribute) → IsFirstOfEach done taken → taken ≡ entries (rdn_map done)
unfolding value_at
taken_all done taken h =
    sym (entries-from_sorted (slice_cmp nat_cmp) taken h.ascends)
    ∙ ap (λ (m : RdnMap). entries m) (same_by_values (from_sorted taken) done (λ kind. get-from_sorted (slice_cmp nat_cmp) taken kind h.ascends ∙ h.values kind))

-- types in order: neither is less than the other where they are equal
same_kinds : (a b : List ℕ) → slice_cmp nat_cmp a b ≡ Equal → a ≡ b
same_kinds a b e = slice_cmp-IsAntisymmetric nat_cmp-IsAntisymmetric a b e

turned : (a b : List ℕ) (o : Ordering) → slice_cmp nat_cmp a b ≡ o → slice_cmp nat_cmp b a ≡ ordering_reverse o
turned a b o e = nat_list_cmp_total.antisymm b a ∙ ap ordering_reverse e

not_lesser : (o : Ordering) → o ≡ Less → is_lt o ≡ false → ⊥
not_lesser o e f = both_ways (is_lt o) f (ap is_lt e)

pub tied_or : (b p : List ℕ) (o : Ordering) → slice_cmp nat_cmp b p ≡ o → is_lt (slice_cmp nat_cmp b p) ≡ false → is_lt (slice_cmp nat_cmp p b) ≡ false → b ≡ p
tied_or b p Less e f g = absurd (not_lesser (slice_cmp nat_cmp b p) e f)
tied_or b p Equal e f g = same_kinds b p e
tied_or b p Greater e f g = absurd (not_lesser (slice_cmp nat_cmp p b) (turned b p Greater e) g)

lesser_by : (a p b : List ℕ) (o : Ordering) → slice_cmp nat_cmp a b ≡ o → is_lt (slice_cmp nat_cmp b a) ≡ false → is_lt (slice_cmp nat_cmp p a) ≡ false
    → is_lt (slice_cmp nat_cmp b p) ≡ false → (p ≡ b → ⊥) → slice_cmp nat_cmp a b ≡ Less
lesser_by a p b Less e ba pa bp apart = e
lesser_by a p b Equal e ba pa bp apart =
    let pb = ap (λ (k : List ℕ). is_lt (slice_cmp nat_cmp p k)) (sym (same_kinds a b e)) ∙ pa in
    absurd (apart (sym (tied_or b p (slice_cmp nat_cmp b p) refl bp pb)))
lesser_by a p b Greater e ba pa bp apart = absurd (not_lesser (slice_cmp nat_cmp b a) (turned a b Greater e) ba)

each_below : (xs : List Attribute) (kind : List ℕ) → AllByRecursion (λ a. slice_cmp nat_cmp a.kind.now kind ≡ Less) xs → AllBelow (map entry_of xs) kind
each_below [] kind h = tt
each_below (a ∷ xs) kind h = (h.0, each_below xs kind h.1)

-- attributes that ascend: where the last before the place has another type, all before it have lesser types
earlier_lesser : (xs : List Attribute) (i k : ℕ) (d : Attribute) → AscendsByKind xs → i < length xs → k < i
    → ((get_or xs (i - 1) d).kind.now ≡ (get_or xs i d).kind.now → ⊥) → slice_cmp nat_cmp (get_or xs k d).kind.now (get_or xs i d).kind.now ≡ Less
earlier_lesser xs i k d up lt inside apart =
    lesser_by (get_or xs k d).kind.now (get_or xs (i - 1) d).kind.now (get_or xs i d).kind.now
    (slice_cmp nat_cmp (get_or xs k d).kind.now (get_or xs i d).kind.now) refl
    (sorted_far has_lesser_kind kinds_rank xs up k i d (omega arith) lt)
    (sorted_far has_lesser_kind kinds_rank xs up k (i - 1) d (omega arith) (omega arith))
    (sorted_far has_lesser_kind kinds_rank xs up (i - 1) i d (omega arith) lt)
    apart

last_before : (xs : List Attribute) (i : ℕ) (d e : Attribute) (kind : List ℕ) → 0 < i → i < length xs
    → (get_or xs (i - 1) d).kind.now ≡ kind → (get_or (take i xs) (length (take i xs) - 1) e).kind.now ≡ kind
last_before xs i d e kind some lt is =
    let n : length (take i xs) ≡ i = length-take-le i xs (omega arith) in
    let at : get_or (take i xs) (length (take i xs) - 1) e ≡ get_or xs (i - 1) d =
    ap (λ (k : ℕ). get_or (take i xs) (k - 1) e) n ∙ (get_or-take i xs (i - 1) e (omega arith) ∙ get_or_default xs (i - 1) e d (omega arith)) in
    ap (λ (a : Attribute). a.kind.now) at ∙ is

earlier_below : (xs : List Attribute) (i : ℕ) (d : Attribute) → AscendsByKind xs → i < length xs
    → (EndsInKind (take i xs) (get_or xs i d).kind.now → ⊥) → AllBelow (map entry_of (take i xs)) (get_or xs i d).kind.now
earlier_below xs i d up lt apart =
    let kind = (get_or xs i d).kind.now in
    let n : length (take i xs) ≡ i = length-take-le i xs (omega arith) in
    each_below (take i xs) kind (recursion_from_All (λ (a : Attribute). slice_cmp nat_cmp a.kind.now kind ≡ Less) (take i xs)
    (All-from_get_or (λ (a : Attribute). slice_cmp nat_cmp a.kind.now kind ≡ Less) (take i xs) d (λ k inside.
    let below : k < i = omega arith in
    ap (λ (a : Attribute). slice_cmp nat_cmp a.kind.now kind) (get_or-take i xs k d below)
    ∙ earlier_lesser xs i k d up lt below (λ same. apart (record {
      some = omega arith;
      same = λ e. last_before xs i d e kind (omega arith) lt same;
    })))))

take_next : (xs : List Attribute) (i : ℕ) (d : Attribute) → i < length xs → map entry_of (take (i + 1) xs) ≡ map entry_of (take i xs) ++ entry_of (get_or xs i d) ∷ []
take_next xs i d lt = ap (map entry_of) (take_more xs i d lt) ∙ map-append entry_of (take i xs) (get_or xs i d ∷ [])

pub place_new : (xs : List Attribute) (i : ℕ) (d : Attribute) (list new : List Attribute) (b : Bool) → AscendsByKind xs → i < length xs
    → IsFirstOfEach (map entry_of (take i xs)) (map entry_of list) → (IsTrue b ↔ EndsInKind (take i xs) (get_or xs i d).kind.now) → b ≡ false
    → new ≡ list ++ get_or xs i d ∷ [] → IsFirstOfEach (map entry_of (take (i + 1) xs)) (map entry_of new)
place_new xs i d list new b up lt h ends is_false pushed =
    let done = map entry_of (take i xs) in
    let e = entry_of (get_or xs i d) in
    subst (λ (es : List ComparedAttribute). IsFirstOfEach es (map entry_of new)) (sym (take_next xs i d lt))
    (subst (λ (es : List ComparedAttribute). IsFirstOfEach (done ++ e ∷ []) es) (sym (ap (map entry_of) pushed ∙ map-append entry_of list (get_or xs i d ∷ [])))
    (taken_more done (map entry_of list) e h (earlier_below xs i d up lt (λ repeats. both_ways b is_false (ends.1 repeats)))))

value_there : (kind : List ℕ) (xs : List Attribute) (k : ℕ) (d : Attribute) → k < length xs → (get_or xs k d).kind.now ≡ kind → is_some (value_at kind (map entry_of xs)) ≡ true
value_there kind [] k d lt is = absurd (omega arith)
value_there kind (x ∷ xs) zero d lt is = ap is_some (value_first kind (entry_of x) (map entry_of xs) (sym is))
value_there kind (x ∷ xs) (suc k) d lt is =
    elim (cases_Bool (pointwise nat_eq kind x.kind.now)) [
      | inl t ↦ ap is_some (value_first kind (entry_of x) (map entry_of xs) ((bytes_eq-Decides kind x.kind.now).0 t))
      | inr f ↦
          ap is_some (value_later kind (entry_of x) (map entry_of xs) (λ same. both_ways (pointwise nat_eq kind x.kind.now) f ((bytes_eq-Decides kind x.kind.now).1 same)))
          ∙ value_there kind xs k d (omega arith) is
    ]

last_has_value : (xs : List Attribute) (kind : List ℕ) → EndsInKind xs kind → is_some (value_at kind (map entry_of xs)) ≡ true
last_has_value [] kind h = let some = h.some in absurd (omega arith)
last_has_value (x ∷ xs) kind h = value_there kind (x ∷ xs) (length (x ∷ xs) - 1) x (omega arith) (h.same x)

pub place_repeated : (xs : List Attribute) (i : ℕ) (d : Attribute) (list new : List Attribute) (b : Bool) → i < length xs
    → IsFirstOfEach (map entry_of (take i xs)) (map entry_of list) → (IsTrue b ↔ EndsInKind (take i xs) (get_or xs i d).kind.now) → b ≡ true
    → new ≡ list → IsFirstOfEach (map entry_of (take (i + 1) xs)) (map entry_of new)
place_repeated xs i d list new b lt h ends is_true same =
    subst (λ (es : List ComparedAttribute). IsFirstOfEach es (map entry_of new)) (sym (take_next xs i d lt))
    (subst (λ (l : List Attribute). IsFirstOfEach (map entry_of (take i xs) ++ entry_of (get_or xs i d) ∷ []) (map entry_of l)) (sym same)
    (taken_same (map entry_of (take i xs)) (map entry_of list) (entry_of (get_or xs i d)) h
    (last_has_value (take i xs) (get_or xs i d).kind.now (ends.0 is_true))))

pub all_placed : (xs list : List Attribute) (i : ℕ) → length xs ≤ i → IsFirstOfEach (map entry_of (take i xs)) (map entry_of list) → map entry_of list ≡ entries (rdn_map (map entry_of xs))
all_placed xs list i le h =
    taken_all (map entry_of xs) (map entry_of list) (subst (λ (ys : List Attribute). IsFirstOfEach (map entry_of ys) (map entry_of list)) (take_all i xs le) h)

-- lists with the same values make one map
pub same_map_of : (xs ys : List Attribute) (es : List ComparedAttribute) → map entry_of xs ≡ es → HasSameValues xs ys → rdn_map (map entry_of ys) ≡ rdn_map es
same_map_of xs ys es e same =
    same_by_values (rdn_map (map entry_of ys)) es (λ kind. get_rdn (map entry_of ys) kind ∙ (same kind ∙ ap (value_at kind) e))
