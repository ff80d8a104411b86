-- What the certificates of a tail meet, one after the other from the target upward.
use Rattle.std.proofs.Common.{◌≡◌, ◌≢◌, ◌↔◌, ℕ, zero, suc, ◌+◌, ◌-◌, ◌<◌, List, [], ◌∷◌, ◌++◌, Bool, true, false, not, ◌||◌, cond, count_by, map, length, length-append, take, reverse, get_or, slice_get, Some, arith, refl, ap, subst, ◌∙◌, sym, inl, inr}
use Rattle.std.specs.List.{AllByRecursion, list_any}
use Rattle.std.specs.Str.{bytes_eq}
use Rattle.std.proofs.lemmas.Slice.Eq.{bytes_eq-Decides}
use Rattle.std.proofs.lemmas.Bool.{cases_Bool, cases_order, false≢true}
use Rattle.std.proofs.lemmas.List.{map-append, reverse-append}
use Rattle.std.proofs.lemmas.Option.{get_or_from_slice_get}
use Rattle.std.proofs.lemmas.List.Sums.{sum_by-append}
use Rattle.std.proofs.Math.Seq.{take-append_seam}
use Rattle.cert.specs.Certificate.{Certificate, is_self_issued}
use Rattle.path_conditions.proofs.Laws.{list_any-map}
use Rattle.path_issuers.specs.Search.{certificates_at, path_down_to, TailGrows}
use Rattle.path_issuers.specs.Factors.{HoldsOfNamed, Lacks, others_above_target}

pub reversed : (x : Certificate) (xs : List Certificate) → reverse (x ∷ xs) ≡ reverse xs ++ x ∷ []
reversed x xs = reverse-append (x ∷ []) xs

-- how many are not self-issued

abbrev is_other : Certificate → Bool
is_other c = not (is_self_issued c)

above_last : (t : Certificate) (cs : List Certificate) → others_above_target (cs ++ t ∷ []) ≡ count_by is_other cs
above_last t cs =
    let len : length (cs ++ t ∷ []) - 1 ≡ length cs = omega (arith, length-append cs (t ∷ [])) in
    ap (λ l. count_by is_other l) (ap (λ n. take n (cs ++ t ∷ [])) len ∙ take-append_seam cs (t ∷ []))

count-cons : (c : Certificate) (cs : List Certificate) → count_by is_other (c ∷ cs) ≡ cond (is_other c) 1 0 + count_by is_other cs
count-cons c cs = sum_by-append (λ x. cond (is_other x) 1 0) (c ∷ []) cs ∙ ap (λ n. n + count_by is_other cs) (omega arith)

count-reverse : (cs : List Certificate) → count_by is_other (reverse cs) ≡ count_by is_other cs
count-reverse [] = refl
count-reverse (c ∷ cs) =
    ap (λ l. count_by is_other l) (reversed c cs)
    ∙ (sum_by-append (λ x. cond (is_other x) 1 0) (reverse cs) (c ∷ [])
    ∙ omega (arith, count-reverse cs, count-cons c cs, count-cons c []))

count-map : (f : ℕ → Certificate) (places : List ℕ) → count_by is_other (map f places) ≡ count_by (λ place. is_other (f place)) places
count-map f [] = refl
count-map f (place ∷ places) =
    count-cons (f place) (map f places)
    ∙ (ap (λ n. cond (is_other (f place)) 1 0 + n) (count-map f places)
    ∙ sym (sum_by-append (λ i. cond (is_other (f i)) 1 0) (place ∷ []) places ∙ ap (λ n. n + count_by (λ i. is_other (f i)) places) (omega arith)))

pub counted : (t : Certificate) (bag : List Certificate) (above : List ℕ) (n : ℕ) → n ≡ count_by (λ place. is_other (get_or bag place t)) above
    → n ≡ others_above_target (path_down_to t bag above)
counted t bag above n says =
    says
    ∙ sym (ap others_above_target (reversed t (certificates_at t bag above))
    ∙ (above_last t (reverse (certificates_at t bag above))
    ∙ (count-reverse (certificates_at t bag above)
    ∙ count-map (λ place. get_or bag place t) above)))

-- the certificate at the top

lengthened : (x c : Certificate) (cs : List Certificate) → (rest : List Certificate) × (cs ≡ c ∷ rest) → (rest : List Certificate) × (cs ++ x ∷ [] ≡ c ∷ rest)
lengthened x c cs (rest, e) = (rest ++ x ∷ [], ap (λ l. l ++ x ∷ []) e)

topped : (t : Certificate) (bag : List Certificate) (above : List ℕ) (place : ℕ) → 0 < length above → get_or above (length above - 1) place ≡ place
    → (rest : List Certificate) × (reverse (certificates_at t bag above) ≡ get_or bag place t ∷ rest)
topped t bag [] place some last = absurd (omega arith)
topped t bag (p ∷ []) place some last = ([], ap (λ i. get_or bag i t ∷ []) last)
topped t bag (p ∷ q ∷ above) place some last =
    let back : length (p ∷ q ∷ above) - 1 ≡ suc (length (q ∷ above) - 1) = omega arith in
    let end = sym (ap (λ n. get_or (p ∷ q ∷ above) n place) back) ∙ last in
    subst (λ l. (rest : List Certificate) × (l ≡ get_or bag place t ∷ rest)) (sym (reversed (get_or bag p t) (certificates_at t bag (q ∷ above))))
    (lengthened (get_or bag p t) (get_or bag place t) (reverse (certificates_at t bag (q ∷ above))) (topped t bag (q ∷ above) place (omega arith) end))

pub top_is : (t : Certificate) (bag : List Certificate) (above : List ℕ) (place : ℕ) (c : Certificate) → Some place ≡ slice_get above (length above - 1) → c ≡ get_or bag place t
    → (below : List Certificate) × (path_down_to t bag above ≡ c ∷ below)
top_is t bag [] place c last is = cc
top_is t bag (p ∷ above) place c last is =
    let end = get_or_from_slice_get (p ∷ above) (length (p ∷ above) - 1) place place (sym last) in
    subst (λ x. (below : List Certificate) × (path_down_to t bag (p ∷ above) ≡ x ∷ below)) (sym is)
    (subst (λ l. (below : List Certificate) × (l ≡ get_or bag place t ∷ below)) (sym (reversed t (certificates_at t bag (p ∷ above))))
    (lengthened t (get_or bag place t) (reverse (certificates_at t bag (p ∷ above))) (topped t bag (p ∷ above) place (omega arith) end)))

-- a tail grows at its top

pub tail_grows : TailGrows
tail_grows t bag above place =
    ap (λ l. reverse (t ∷ l)) (map-append (λ i. get_or bag i t) above (place ∷ []))
    ∙ reverse-append (t ∷ certificates_at t bag above) (get_or bag place t ∷ [])

-- what holds of each

module _ (P : Certificate → Type 0) where
  append_to : (xs ys : List Certificate) → AllByRecursion P (xs ++ ys) → AllByRecursion P xs × AllByRecursion P ys
  append_to [] ys all = (tt, all)
  append_to (x ∷ xs) ys all = let more = append_to xs ys all.1 in ((all.0, more.0), more.1)

  append_from : (xs ys : List Certificate) → AllByRecursion P xs → AllByRecursion P ys → AllByRecursion P (xs ++ ys)
  append_from [] ys all more = more
  append_from (x ∷ xs) ys all more = (all.0, append_from xs ys all.1 more)

  reverse_to : (xs : List Certificate) → AllByRecursion P xs → AllByRecursion P (reverse xs)
  reverse_to [] all = tt
  reverse_to (x ∷ xs) all = subst (AllByRecursion P) (sym (reversed x xs)) (append_from (reverse xs) (x ∷ []) (reverse_to xs all.1) (all.0, tt))

  reverse_from : (xs : List Certificate) → AllByRecursion P (reverse xs) → AllByRecursion P xs
  reverse_from [] all = tt
  reverse_from (x ∷ xs) all =
      let parts = append_to (reverse xs) (x ∷ []) (subst (AllByRecursion P) (reversed x xs) all) in
      (parts.1.0, reverse_from xs parts.0)

-- names

module _ (Holds : Certificate → Type 0) (t : Certificate) where
  abbrev HoldsOfOther : Certificate → Type 0
  HoldsOfOther c = is_self_issued c ≡ false → Holds c

  hold_to : (cs : List Certificate) → HoldsOfNamed Holds (cs ++ t ∷ []) → AllByRecursion HoldsOfOther cs × Holds t
  hold_to [] all = (tt, all)
  hold_to (c ∷ []) all = ((all.0, tt), all.1)
  hold_to (c ∷ d ∷ cs) all = let rest = hold_to (d ∷ cs) all.1 in ((all.0, rest.0), rest.1)

  hold_from : (cs : List Certificate) → AllByRecursion HoldsOfOther cs → Holds t → HoldsOfNamed Holds (cs ++ t ∷ [])
  hold_from [] all last = last
  hold_from (c ∷ []) all last = (all.0, last)
  hold_from (c ∷ d ∷ cs) all last = (all.0, hold_from (d ∷ cs) all.1 last)

  pub hold_below : (bag : List Certificate) (above : List ℕ)
      → (Holds t × AllByRecursion HoldsOfOther (certificates_at t bag above)) ↔ HoldsOfNamed Holds (path_down_to t bag above)
  hold_below bag above =
      let upward = certificates_at t bag above in
      let turned = reversed t upward in (
        λ both. subst (HoldsOfNamed Holds) (sym turned) (hold_from (reverse upward) (reverse_to HoldsOfOther upward both.1) both.0),
        λ all.
            let parts = hold_to (reverse upward) (subst (HoldsOfNamed Holds) turned all) in
            (parts.1, reverse_from HoldsOfOther upward parts.0),
      )

-- by place

module _ (P : Certificate → Type 0) (t : Certificate) (bag : List Certificate) where
  pub all_places : (above : List ℕ) → ((i : ℕ) → i < length above → P (get_or bag (get_or above i 0) t)) → AllByRecursion P (certificates_at t bag above)
  all_places [] f = tt
  all_places (place ∷ above) f = (f zero (omega arith), all_places above (λ i h. f (suc i) (omega arith)))

  pub one_more : (above : List ℕ) (n : ℕ) → ((i : ℕ) → i < n → P (get_or bag (get_or above i 0) t)) → P (get_or bag (get_or above n 0) t)
      → (i : ℕ) → i < n + 1 → P (get_or bag (get_or above i 0) t)
  one_more above n f last i h =
      elim (cases_order i n) [
        | inl e ↦ subst (λ k. P (get_or bag (get_or above k 0) t)) (sym e) last
        | inr o ↦ elim o [ inl below ↦ f i below | inr past ↦ absurd (omega arith) ]
      ]

  pub place_of : (above : List ℕ) → AllByRecursion P (certificates_at t bag above) → (i : ℕ) → i < length above → P (get_or bag (get_or above i 0) t)
  place_of [] all i h = absurd (omega arith)
  place_of (place ∷ above) all zero h = all.0
  place_of (place ∷ above) all (suc i) h = place_of above all.1 i (omega arith)

-- truth values

not_true : (b : Bool) → not b ≡ true → b ≡ false
not_true true e = absurd (false≢true e)
not_true false e = refl

or_false_parts : (a b : Bool) → (a || b) ≡ false → (a ≡ false) × (b ≡ false)
or_false_parts true b e = absurd (false≢true (sym e))
or_false_parts false b e = (refl, e)

both_false : (a b : Bool) → a ≡ false → b ≡ false → (a || b) ≡ false
both_false true b e f = absurd (false≢true (sym e))
both_false false b e f = f

pub both_decide : {A B C : Type 0} (a b : Bool) → ((a ≡ true) ↔ A) → ((b ≡ true) ↔ B) → ((A × B) ↔ C) → a ≡ true → ((b ≡ true) ↔ C)
both_decide a b f g h holds = (λ t. h.0 (f.0 holds, g.0 t), λ all. g.1 (h.1 all).1)

pub first_decides : {A B C : Type 0} (a : Bool) → ((a ≡ true) ↔ A) → ((A × B) ↔ C) → a ≡ false → ((a ≡ true) ↔ C)
first_decides a f h none = (λ holds. absurd (false≢true (sym none ∙ holds)), λ all. f.1 (h.1 all).0)

-- octets

module _ (t : Certificate) (octets : List ℕ) where
  abbrev has : Certificate → Bool
  has c = bytes_eq c.octets octets

  other_octets : (c : Certificate) → has c ≡ false → c.octets ≢ octets
  other_octets c other same = false≢true (sym other ∙ (bytes_eq-Decides c.octets octets).1 same)

  has_not : (c : Certificate) → c.octets ≢ octets → has c ≡ false
  has_not c other = elim (cases_Bool (has c)) [ inl same ↦ absurd (other ((bytes_eq-Decides c.octets octets).0 same)) | inr differs ↦ differs ]

  lacks_to : (cs : List Certificate) → list_any has cs ≡ false → Lacks octets cs
  lacks_to [] none = tt
  lacks_to (c ∷ cs) none = let parts = or_false_parts (has c) (list_any has cs) none in (other_octets c parts.0, lacks_to cs parts.1)

  lacks_from : (cs : List Certificate) → Lacks octets cs → list_any has cs ≡ false
  lacks_from [] all = refl
  lacks_from (c ∷ cs) all = both_false (has c) (list_any has cs) (has_not c all.0) (lacks_from cs all.1)

  upward_has : (bag : List Certificate) (above : List ℕ) → list_any has (certificates_at t bag above) ≡ list_any (λ place. has (get_or bag place t)) above
  upward_has bag above = list_any-map has (λ place. get_or bag place t) above

  pub lacks_below : (bag : List Certificate) (above : List ℕ) (others : Bool) → others ≡ list_any (λ place. has (get_or bag place t)) above
      → (differs : Bool) → differs ≡ not (has t) → differs ≡ true → (not others ≡ true) ↔ Lacks octets (path_down_to t bag above)
  lacks_below bag above others says differs e holds =
      let P = λ (c : Certificate). c.octets ≢ octets in
      let upward = certificates_at t bag above in (
        λ none. reverse_to P (t ∷ upward) (other_octets t (not_true (has t) (sym e ∙ holds)), lacks_to upward (upward_has bag above ∙ (sym says ∙ not_true others none))),
        λ all. ap not (says ∙ (sym (upward_has bag above) ∙ lacks_from upward (reverse_from P (t ∷ upward) all).1)),
      )

  pub lacks_not : (bag : List Certificate) (above : List ℕ) (differs : Bool) → differs ≡ not (has t) → differs ≡ false → (differs ≡ true) ↔ Lacks octets (path_down_to t bag above)
  lacks_not bag above differs e none = (
    λ holds. absurd (false≢true (sym none ∙ holds)),
    λ all.
        let lacks = reverse_from (λ (c : Certificate). c.octets ≢ octets) (t ∷ certificates_at t bag above) all in
        e ∙ ap not (has_not t lacks.0),
  )
