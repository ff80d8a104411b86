-- What keeps rows in their places.
use Rattle.std.proofs.Common.{◌≡◌, ◌≢◌, ◌⊎◌, ℕ, zero, suc, ◌+◌, ◌*◌, ◌<◌, ◌≤◌, Bool, true, false, not, ◌&&◌, ◌==◌, nat_lt, List, [], ◌∷◌, ◌++◌, filter, map, length, slice_get, refl, sym, ap, subst, ◌∙◌, inl, inr, arith, true≢false}
use Rattle.std.proofs.lemmas.Bool.{cases_Bool}
use Rattle.std.proofs.lemmas.Bool.Decides.{eqb_tells, nat_tests}
use Rattle.std.proofs.lemmas.List.{map-append}
use Rattle.std.specs.List.{AllByRecursion}
use Rattle.sqlite_trees.specs.Tree.{IsAscending}
use Rattle.store_rows.specs.Contents.{EntryRow}
use Rattle.store_rows.specs.Places.{IsBelow, is_under, entries_under, list_base, StandFrom, IsInside, ArePlaced, is_at, at_most, put_entry, without}

-- ---- lists

all_of : {X : Type 0} (P Q : X → Type 0) → ((x : X) → P x → Q x) → (xs : List X) → AllByRecursion P xs → AllByRecursion Q xs
all_of P Q f [] h = tt
all_of P Q f (x ∷ xs) h = (f x h.0, all_of P Q f xs h.1)

all_kept : {X : Type 0} (P : X → Type 0) (p : X → Bool) (xs : List X) → AllByRecursion P xs → AllByRecursion P (filter p xs)
all_kept P p [] h = tt
all_kept P p (x ∷ xs) h = elim (cases_Bool (p x)) [
  | inl passes ↦ rw passes (h.0, all_kept P p xs h.1)
  | inr fails ↦ rw fails (all_kept P p xs h.1)
]

all_with : {X : Type 0} (P : X → Type 0) (p : X → Bool) (xs : List X) → AllByRecursion P xs → AllByRecursion (λ x. P x × (p x ≡ true)) (filter p xs)
all_with P p [] h = tt
all_with P p (x ∷ xs) h = elim (cases_Bool (p x)) [
  | inl passes ↦ rw passes ((h.0, passes), all_with P p xs h.1)
  | inr fails ↦ rw fails (all_with P p xs h.1)
]

ascends_kept : {X : Type 0} (R : X → X → Type 0) (p : X → Bool) (xs : List X) → IsAscending R xs → IsAscending R (filter p xs)
ascends_kept R p [] h = tt
ascends_kept R p (x ∷ xs) h = elim (cases_Bool (p x)) [
  | inl passes ↦ rw passes (all_kept (R x) p xs h.0, ascends_kept R p xs h.1)
  | inr fails ↦ rw fails (ascends_kept R p xs h.1)
]

none_kept : {X : Type 0} (p : X → Bool) (xs : List X) → AllByRecursion (λ x. p x ≡ false) xs → filter p xs ≡ []
none_kept p [] h = refl
none_kept p (x ∷ xs) h = rw h.0 (none_kept p xs h.1)

-- a test that only passes what another does
kept_twice : {X : Type 0} (p q : X → Bool) (xs : List X) → AllByRecursion (λ x. p x ≡ true → q x ≡ true) xs → filter p (filter q xs) ≡ filter p xs
kept_twice p q [] h = refl
kept_twice p q (x ∷ xs) h = elim (cases_Bool (q x)) [
  | inl there ↦ elim (cases_Bool (p x)) [
    | inl also ↦ rw (there, also) (ap (λ more. x ∷ more) (kept_twice p q xs h.1))
    | inr out ↦ rw (there, out) (kept_twice p q xs h.1)
  ]
  | inr gone ↦ elim (cases_Bool (p x)) [
    | inl also ↦ absurd (true≢false (sym (h.0 also) ∙ gone))
    | inr out ↦ rw (gone, out) (kept_twice p q xs h.1)
  ]
]

kept_none : {X : Type 0} (p q : X → Bool) (xs : List X) → ((x : X) → p x ≡ true → q x ≡ false) → filter p (filter q xs) ≡ []
kept_none p q [] h = refl
kept_none p q (x ∷ xs) h = elim (cases_Bool (q x)) [
  | inl there ↦ elim (cases_Bool (p x)) [
    | inl also ↦ absurd (true≢false (sym there ∙ h x also))
    | inr out ↦ rw (there, out) (kept_none p q xs h)
  ]
  | inr gone ↦ rw gone (kept_none p q xs h)
]

all_true : {X : Type 0} (P : X → Type 0) → ((x : X) → P x) → (xs : List X) → AllByRecursion P xs
all_true P f [] = tt
all_true P f (x ∷ xs) = (f x, all_true P f xs)

all_pushed : {X : Type 0} (P : X → Type 0) (xs : List X) (y : X) → AllByRecursion P xs → P y → AllByRecursion P (xs ++ y ∷ [])
all_pushed P [] y h p = (p, tt)
all_pushed P (x ∷ xs) y h p = (h.0, all_pushed P xs y h.1 p)

ascends_pushed : {X : Type 0} (R : X → X → Type 0) (xs : List X) (y : X) → IsAscending R xs → AllByRecursion (λ x. R x y) xs → IsAscending R (xs ++ y ∷ [])
ascends_pushed R [] y up low = (tt, tt)
ascends_pushed R (x ∷ xs) y up low = (all_pushed (R x) xs y up.0 low.0, ascends_pushed R xs y up.1 low.1)

-- ---- slots

eq_of : (a b : ℕ) → (a == b) ≡ true → a ≡ b
eq_of a b e = grind (arith, nat_tests)

is_eq_of : (a b : ℕ) → a ≡ b → (a == b) ≡ true
is_eq_of a b e = grind (arith, nat_tests)

apart_of : (a b : ℕ) → a ≢ b → (a == b) ≡ false
apart_of a b e = grind (arith, nat_tests)

pub record Under (i s : ℕ) (e : EntryRow) : Type 0 where
  pub issuer : e.issuer ≡ i
  pub scope : e.scope ≡ s

and_parts : (a b : Bool) → (a && b) ≡ true → (a ≡ true) × (b ≡ true)
and_parts true true e = (refl, refl)
and_parts true false e = absurd (true≢false (sym e))
and_parts false b e = absurd (true≢false (sym e))

pub under : (i s : ℕ) (e : EntryRow) → is_under i s e ≡ true → Under i s e
under i s e h = let p = and_parts (e.issuer == i) (e.scope == s) h in record { issuer = eq_of e.issuer i p.0; scope = eq_of e.scope s p.1 }

pub is_under_of : (i s : ℕ) (e : EntryRow) → Under i s e → is_under i s e ≡ true
is_under_of i s e u = rw (is_eq_of e.issuer i u.issuer, is_eq_of e.scope s u.scope) refl

-- the room that a row stands in tells its entries_under
same_number : (q r p : ℕ) → q * 4294967296 ≤ p → p < q * 4294967296 + 4294967296 → r * 4294967296 ≤ p → p < r * 4294967296 + 4294967296 → q ≡ r
same_number q r p a b c d = omega arith

pub in_room : (i s : ℕ) (e : EntryRow) → s < 3 → IsInside e → list_base i s ≤ e.place → e.place < list_base i s + 4294967296 → Under i s e
in_room i s e few it low high =
    let same : e.issuer * 4 + e.scope ≡ i * 4 + s = same_number (e.issuer * 4 + e.scope) (i * 4 + s) e.place it.low it.high low high in
    let scope = it.scope in
    record { issuer = omega arith; scope = omega arith }

-- ---- a look-up by place

past : (n m : ℕ) (es : List EntryRow) → n < m → StandFrom m es → filter (is_at n) es ≡ []
past n m [] low h = refl
past n m (e ∷ es) low h = rw (apart_of e.place n (λ same. let is = h.0 in omega arith)) (past n (suc m) es (omega arith) h.1)

found_at : (n k p : ℕ) (es : List EntryRow) → p ≡ n + k → StandFrom n es → filter (is_at p) es ≡ at_most (slice_get es k)
found_at n k p [] e h = refl
found_at n zero p (x ∷ es) e h = rw (is_eq_of x.place p (let is = h.0 in omega arith)) (ap (λ more. x ∷ more) (past p (suc n) es (omega arith) h.1))
found_at n (suc k) p (x ∷ es) e h = rw (apart_of x.place p (λ same. let is = h.0 in omega arith)) (found_at (suc n) k p es (omega arith) h.1)

-- a SELECT by id finds what its entries_under has at that place, and no more
pub at_place : (es : List EntryRow) (i s k : ℕ) → ArePlaced es → s < 3 → k < 4294967296 → filter (is_at (list_base i s + k)) es ≡ at_most (slice_get (filter (is_under i s) es) k)
at_place es i s k placed few low =
    sym (kept_twice (is_at (list_base i s + k)) (is_under i s) es (all_of IsInside (λ e. is_at (list_base i s + k) e ≡ true → is_under i s e ≡ true) inside es placed.inside))
    ∙ found_at (list_base i s) k (list_base i s + k) (filter (is_under i s) es) refl (placed.stand i s)
  where
    inside : (e : EntryRow) → IsInside e → is_at (list_base i s + k) e ≡ true → is_under i s e ≡ true
    inside e it at = let is : e.place ≡ list_base i s + k = eq_of e.place (list_base i s + k) at in is_under_of i s e (in_room i s e few it (omega arith) (omega arith))

-- ---- a entries_under is emptied

pub not_under : (i s : ℕ) (e : EntryRow) → ¬ Under i s e → is_under i s e ≡ false
not_under i s e far = elim (cases_Bool (is_under i s e)) [ inl here ↦ absurd (far (under i s e here)) | inr out ↦ out ]

pub emptied : (es : List EntryRow) (i s j t : ℕ) → j ≡ i → t ≡ s → filter (is_under j t) (without i s es) ≡ []
emptied es i s j t a b = kept_none (is_under j t) (λ e. not (is_under i s e)) es (λ e h. let u = under j t e h in ap not (is_under_of i s e (record { issuer = u.issuer ∙ a; scope = u.scope ∙ b })))

pub spared : (es : List EntryRow) (i s j t : ℕ) → (j ≢ i) ⊎ (t ≢ s) → filter (is_under j t) (without i s es) ≡ filter (is_under j t) es
spared es i s j t far = kept_twice (is_under j t) (λ e. not (is_under i s e)) es (all_true _ (λ e h. let u = under j t e h in ap not (not_under i s e (λ v. apart u v far))) es)
  where
    apart : {e : EntryRow} → Under j t e → Under i s e → (j ≢ i) ⊎ (t ≢ s) → ⊥
    apart u v (inl a) = a (sym u.issuer ∙ v.issuer)
    apart u v (inr b) = b (sym u.scope ∙ v.scope)

which : (es : List EntryRow) (i s j t : ℕ) → (filter (is_under j t) (without i s es) ≡ []) ⊎ (filter (is_under j t) (without i s es) ≡ filter (is_under j t) es)
which es i s j t = elim (eqb_tells j i) [
  | inl same ↦ elim (eqb_tells t s) [
    | inl also ↦ inl (emptied es i s j t same.1 also.1)
    | inr other ↦ inr (spared es i s j t (inr other.1))
  ]
  | inr other ↦ inr (spared es i s j t (inl other.1))
]

pub placed_without : (es : List EntryRow) (i s : ℕ) → ArePlaced es → ArePlaced (without i s es)
placed_without es i s placed = record {
  rise = ascends_kept (λ a b. a.place < b.place) (λ e. not (is_under i s e)) es placed.rise;
  inside = all_kept IsInside (λ e. not (is_under i s e)) es placed.inside;
  stand = λ j t. either (λ xs. StandFrom (list_base j t) xs) j t (placed.stand j t) tt;
  serials = λ j t. either (λ xs. IsAscending IsBelow (map (λ e. e.listed) xs)) j t (placed.serials j t) tt;
}
  where
    either : (P : List EntryRow → Type 0) (j t : ℕ) → P (filter (is_under j t) es) → P [] → P (filter (is_under j t) (without i s es))
    either P j t same none = elim (which es i s j t) [ inl gone ↦ rw gone none | inr kept ↦ rw kept same ]

-- ---- a row is put after the last of its entries

below_tells : (a b : ℕ) → ((nat_lt a b ≡ true) × (a < b)) ⊎ ((nat_lt a b ≡ false) × (b ≤ a))
below_tells a b = elim (cases_Bool (nat_lt a b)) [
  | inl e ↦ inl (e, grind (arith, nat_tests))
  | inr e ↦ inr (e, grind (arith, nat_tests))
]

pub put_other : (p : EntryRow → Bool) (new : EntryRow) (es : List EntryRow) → p new ≡ false → filter p (put_entry new es) ≡ filter p es
put_other p new [] out = rw out refl
put_other p new (e ∷ es) out = elim (below_tells e.place new.place) [
  | inl less ↦ elim (cases_Bool (p e)) [
    | inl here ↦ rw (less.0, here) (ap (λ more. e ∷ more) (put_other p new es out))
    | inr gone ↦ rw (less.0, gone) (put_other p new es out)
  ]
  | inr more ↦ rw (more.0, out) refl
]

after : (e : EntryRow) (n : ℕ) (es : List EntryRow) → n ≤ e.place → AllByRecursion (λ x. e.place < x.place) es → AllByRecursion (λ x. n ≤ x.place) es
after e n es least up = all_of (λ x. e.place < x.place) (λ x. n ≤ x.place) (λ x h. omega arith) es up

later_out : (p : EntryRow → Bool) (n : ℕ) (es : List EntryRow) → AllByRecursion (λ x. n ≤ x.place) es → AllByRecursion (λ e. p e ≡ true → e.place < n) es → AllByRecursion (λ e. p e ≡ false) es
later_out p n [] h low = tt
later_out p n (e ∷ es) h low = (elim (cases_Bool (p e)) [ inl here ↦ absurd (let l = low.0 here in let m = h.0 in omega arith) | inr gone ↦ gone ], later_out p n es h.1 low.1)

pub put_own : (p : EntryRow → Bool) (new : EntryRow) (es : List EntryRow) → p new ≡ true → IsAscending (λ a b. a.place < b.place) es → AllByRecursion (λ e. p e ≡ true → e.place < new.place) es
    → filter p (put_entry new es) ≡ filter p es ++ new ∷ []
put_own p new [] own up low = rw own refl
put_own p new (e ∷ es) own up low = elim (below_tells e.place new.place) [
  | inl less ↦ elim (cases_Bool (p e)) [
    | inl here ↦ rw (less.0, here) (ap (λ more. e ∷ more) (put_own p new es own up.1 low.1))
    | inr gone ↦ rw (less.0, gone) (put_own p new es own up.1 low.1)
  ]
  | inr more ↦
      let none : filter p (e ∷ es) ≡ [] = none_kept p (e ∷ es) (later_out p new.place (e ∷ es) (more.1, after e new.place es more.1 up.0) low) in
      rw (more.0, own, none) refl
]

all_put : (P : EntryRow → Type 0) (new : EntryRow) (es : List EntryRow) → P new → AllByRecursion P es → AllByRecursion P (put_entry new es)
all_put P new [] n h = (n, tt)
all_put P new (e ∷ es) n h = elim (below_tells e.place new.place) [
  | inl less ↦ rw less.0 (h.0, all_put P new es n h.1)
  | inr more ↦ rw more.0 (n, h)
]

rises_put : (new : EntryRow) (es : List EntryRow) → IsAscending (λ a b. a.place < b.place) es → AllByRecursion (λ e. e.place ≢ new.place) es → IsAscending (λ a b. a.place < b.place) (put_entry new es)
rises_put new [] up far = (tt, tt)
rises_put new (e ∷ es) up far = elim (below_tells e.place new.place) [
  | inl less ↦ rw less.0 (all_put (λ x. e.place < x.place) new es less.1 up.0, rises_put new es up.1 far.1)
  | inr more ↦
      let low : new.place < e.place = strict new.place e.place more.1 far.0 in
      rw more.0 ((low, all_of (λ x. e.place < x.place) (λ x. new.place < x.place) (λ x h. omega arith) es up.0), up)
]
  where
    strict : (a b : ℕ) → a ≤ b → b ≢ a → a < b
    strict a b h far = grind arith

lifted : {X : Type 0} (P : X → Type 0) (p : X → Bool) (xs : List X) → AllByRecursion P (filter p xs) → AllByRecursion (λ x. p x ≡ true → P x) xs
lifted P p [] h = tt
lifted P p (x ∷ xs) h = elim (cases_Bool (p x)) [
  | inl here ↦ let k : AllByRecursion P (x ∷ filter p xs) = rw here at h in (λ _. k.0, lifted P p xs k.1)
  | inr gone ↦ let k : AllByRecursion P (filter p xs) = rw gone at h in (λ e. absurd (true≢false (sym e ∙ gone)), lifted P p xs k)
]

stand_below : (n : ℕ) (xs : List EntryRow) → StandFrom n xs → AllByRecursion (λ e. e.place < n + length xs) xs
stand_below n [] h = tt
stand_below n (e ∷ xs) h = (let is = h.0 in omega arith, all_of (λ x. x.place < suc n + length xs) (λ x. x.place < n + length (e ∷ xs)) (λ x low. omega arith) xs (stand_below (suc n) xs h.1))

stand_pushed : (n : ℕ) (xs : List EntryRow) (new : EntryRow) → StandFrom n xs → new.place ≡ n + length xs → StandFrom n (xs ++ new ∷ [])
stand_pushed n [] new h e = (omega arith, tt)
stand_pushed n (x ∷ xs) new h e = (h.0, stand_pushed (suc n) xs new h.1 (omega arith))

-- the row comes next in its entries_under
pub record IsNext (es : List EntryRow) (new : EntryRow) : Type 0 where
  pub inside : IsInside new
  pub next : new.place ≡ list_base new.issuer new.scope + length (filter (is_under new.issuer new.scope) es)
  pub above : AllByRecursion (λ p. IsBelow p new.listed) (entries_under es new.issuer new.scope)

pub own_slot : (new : EntryRow) → is_under new.issuer new.scope new ≡ true
own_slot new = is_under_of new.issuer new.scope new (record { issuer = refl; scope = refl })

pub lows : (es : List EntryRow) (new : EntryRow) → ArePlaced es → IsNext es new → AllByRecursion (λ e. is_under new.issuer new.scope e ≡ true → e.place < new.place) es
lows es new placed is = lifted (λ e. e.place < new.place) (is_under new.issuer new.scope) es
    (all_of (λ e. e.place < list_base new.issuer new.scope + length (filter (is_under new.issuer new.scope) es)) (λ e. e.place < new.place) (λ e low. let next = is.next in omega arith) (filter (is_under new.issuer new.scope) es)
    (stand_below (list_base new.issuer new.scope) (filter (is_under new.issuer new.scope) es) (placed.stand new.issuer new.scope)))

both : {X : Type 0} (P Q R : X → Type 0) → ((x : X) → P x → Q x → R x) → (xs : List X) → AllByRecursion P xs → AllByRecursion Q xs → AllByRecursion R xs
both P Q R f [] h k = tt
both P Q R f (x ∷ xs) h k = (f x h.0 k.0, both P Q R f xs h.1 k.1)

pub fars : (es : List EntryRow) (new : EntryRow) → ArePlaced es → IsNext es new → AllByRecursion (λ e. e.place ≢ new.place) es
fars es new placed is = both IsInside (λ e. is_under new.issuer new.scope e ≡ true → e.place < new.place) (λ e. e.place ≢ new.place)
    (λ e it low same. far e it low same) es placed.inside (lows es new placed is)
  where
    far : (e : EntryRow) → IsInside e → (is_under new.issuer new.scope e ≡ true → e.place < new.place) → e.place ≡ new.place → ⊥
    far e it low same =
        let mine = is.inside in
        let a = mine.low in
        let b = mine.high in
        let less = low (is_under_of new.issuer new.scope e (in_room new.issuer new.scope e mine.scope it (omega arith) (omega arith))) in
        omega arith

pub own_put : (es : List EntryRow) (new : EntryRow) → ArePlaced es → IsNext es new → filter (is_under new.issuer new.scope) (put_entry new es) ≡ filter (is_under new.issuer new.scope) es ++ new ∷ []
own_put es new placed is = put_own (is_under new.issuer new.scope) new es (own_slot new) placed.rise (lows es new placed is)

pub slot_put : (es : List EntryRow) (new : EntryRow) → ArePlaced es → IsNext es new → entries_under (put_entry new es) new.issuer new.scope ≡ entries_under es new.issuer new.scope ++ new.listed ∷ []
slot_put es new placed is = ap (map (λ e. e.listed)) (own_put es new placed is) ∙ map-append (λ e. e.listed) (filter (is_under new.issuer new.scope) es) (new ∷ [])

pub slot_spared : (es : List EntryRow) (new : EntryRow) (j t : ℕ) → (j ≢ new.issuer) ⊎ (t ≢ new.scope) → entries_under (put_entry new es) j t ≡ entries_under es j t
slot_spared es new j t far = ap (map (λ e. e.listed)) (put_other (is_under j t) new es (not_under j t new (λ u. apart u far)))
  where
    apart : Under j t new → (j ≢ new.issuer) ⊎ (t ≢ new.scope) → ⊥
    apart u (inl a) = a (sym u.issuer)
    apart u (inr b) = b (sym u.scope)

pub placed_put : (es : List EntryRow) (new : EntryRow) → ArePlaced es → IsNext es new → ArePlaced (put_entry new es)
placed_put es new placed is = record {
  rise = rises_put new es placed.rise (fars es new placed is);
  inside = all_put IsInside new es is.inside placed.inside;
  stand = λ j t. elim (cases_Bool (is_under j t new)) [
    | inl own ↦ let u = under j t new own in subst (λ a. StandFrom (list_base a t) (filter (is_under a t) (put_entry new es))) u.issuer
        (subst (λ b. StandFrom (list_base new.issuer b) (filter (is_under new.issuer b) (put_entry new es))) u.scope
        (rw (own_put es new placed is) (stand_pushed (list_base new.issuer new.scope) (filter (is_under new.issuer new.scope) es) new (placed.stand new.issuer new.scope) is.next)))
    | inr out ↦ rw (put_other (is_under j t) new es out) (placed.stand j t)
  ];
  serials = λ j t. elim (cases_Bool (is_under j t new)) [
    | inl own ↦ let u = under j t new own in subst (λ a. IsAscending IsBelow (entries_under (put_entry new es) a t)) u.issuer
        (subst (λ b. IsAscending IsBelow (entries_under (put_entry new es) new.issuer b)) u.scope
        (subst (IsAscending IsBelow) (sym (slot_put es new placed is)) (ascends_pushed IsBelow (entries_under es new.issuer new.scope) new.listed (placed.serials new.issuer new.scope) is.above)))
    | inr out ↦ rw (put_other (is_under j t) new es out) (placed.serials j t)
  ];
}

-- ---- how many a entries_under has

stand_fits : (n m : ℕ) (xs : List EntryRow) → StandFrom n xs → AllByRecursion (λ e. e.place < m) xs → n ≤ m → n + length xs ≤ m
stand_fits n m [] h low fits = omega arith
stand_fits n m (e ∷ xs) h low fits = let is = h.0 in let less = low.0 in let more = stand_fits (suc n) m xs h.1 low.1 (omega arith) in omega arith

pub slot_fits : (es : List EntryRow) (i s : ℕ) → ArePlaced es → length (filter (is_under i s) es) ≤ 4294967296
slot_fits es i s placed =
    let all = stand_fits (list_base i s) (list_base i s + 4294967296) (filter (is_under i s) es) (placed.stand i s)
    (all_of (λ e. IsInside e × (is_under i s e ≡ true)) (λ e. e.place < list_base i s + 4294967296) high (filter (is_under i s) es) (all_with IsInside (is_under i s) es placed.inside)) (omega arith) in
    omega arith
  where
    high : (e : EntryRow) → (IsInside e × (is_under i s e ≡ true)) → e.place < list_base i s + 4294967296
    high e h = let u = under i s e h.1 in subst (λ a. e.place < list_base a s + 4294967296) u.issuer (subst (λ b. e.place < list_base e.issuer b + 4294967296) u.scope (h.0).high)
