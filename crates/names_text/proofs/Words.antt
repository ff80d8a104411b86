use Rattle.std.proofs.Common.{◌≡◌, ℕ, suc, ◌<◌, ◌+◌, List, [], ◌∷◌, length, take, drop, map, Bool, true, false, not, cond, refl, sym, ◌∙◌, ap, inl, inr, arith, nat_lt, length-drop, rules, subst, get_or, Some, None, length-append}
use Rattle.std.specs.List.{slice_split, onto_first, filter, join_with_byte, position_or_len, position, All}
use Rattle.std.specs.Char.{to_ascii_lowercase}
use Rattle.std.proofs.lemmas.Bool.{cases_Bool, cases_eq, ne_eqb, lt-ltb, cases_lt, cond-true}
use Rattle.std.proofs.lemmas.List.{take-map, drop-map}
use Rattle.std.proofs.lemmas.List.Splits.{slice_split-cons_yes, slice_split-cons_no, slice_split_none, slice_split_at}
use Rattle.std.proofs.lemmas.List.Sums.{prefix_len-le-length}
use Rattle.std.proofs.lemmas.List.Elements.{All-cons, All-nil}
use Rattle.names_text.specs.Preparation.{is_space, not_space, has_octets, words, prepared, BeginsWithWord}

ne_lower : (c : ℕ) → (c ≡ 32 → ⊥) → to_ascii_lowercase c ≡ 32 → ⊥
ne_lower c n h = grind (arith, rules)

pub space-lower : (c : ℕ) → is_space (to_ascii_lowercase c) ≡ is_space c
space-lower c =
    elim (cases_eq c 32) [
      | inl e ↦ ap (λ (k : ℕ). is_space (to_ascii_lowercase k)) e ∙ sym (ap is_space e)
      | inr n ↦ ne_eqb (to_ascii_lowercase c) 32 (ne_lower c n) ∙ sym (ne_eqb c 32 n)
    ]

word_len-lower : (text : List ℕ) → position_or_len is_space (map to_ascii_lowercase text) ≡ position_or_len is_space text
word_len-lower [] = refl
word_len-lower (c ∷ text) =
    ap (λ (b : Bool). cond (not b) (1 + position_or_len is_space (map to_ascii_lowercase text)) 0) (space-lower c)
    ∙ ap (λ (n : ℕ). cond (not (is_space c)) (1 + n) 0) (word_len-lower text)

module _ {X : Type 0} (p : X → Bool) where
  len-no : (y : X) (ys : List X) → p y ≡ false → position_or_len p (y ∷ ys) ≡ suc (position_or_len p ys)
  len-no y ys f = ap (λ (b : Bool). cond (not b) (1 + position_or_len p ys) 0) f ∙ omega arith

  len-yes : (y : X) (ys : List X) → p y ≡ true → position_or_len p (y ∷ ys) ≡ 0
  len-yes y ys t = ap (λ (b : Bool). cond (not b) (1 + position_or_len p ys) 0) t

  -- the first part is what stands before the first that passes, and the rest begins with an empty part
  split_head : (ys : List X) → slice_split p ys ≡ take (position_or_len p ys) ys ∷ drop 1 (slice_split p (drop (position_or_len p ys) ys))
  split_head [] = refl
  split_head (y ∷ ys) =
      elim (cases_Bool (p y)) [
        | inl t ↦ rw (len-yes y ys t, slice_split-cons_yes p y ys t)
        | inr f ↦ rw (len-no y ys f) (slice_split-cons_no p y ys f ∙ ap (λ (l : List (List X)). onto_first y l) (split_head ys))
      ]

  rest_head : (ys : List X) → slice_split p (drop (position_or_len p ys) ys) ≡ [] ∷ drop 1 (slice_split p (drop (position_or_len p ys) ys))
  rest_head [] = refl
  rest_head (y ∷ ys) =
      elim (cases_Bool (p y)) [
        | inl t ↦ rw (len-yes y ys t, slice_split-cons_yes p y ys t)
        | inr f ↦ rw (len-no y ys f) (rest_head ys)
      ]

split_words : List ℕ → List (List ℕ)
split_words ys = filter has_octets (slice_split is_space ys)

first_of_split : (ys : List ℕ) → 0 < length (take (position_or_len is_space ys) ys) → split_words ys ≡ take (position_or_len is_space ys) ys ∷ split_words (drop (position_or_len is_space ys) ys)
unfolding split_words
first_of_split ys h =
    let n = position_or_len is_space ys in
    let tail = drop 1 (slice_split is_space (drop n ys)) in
    ap (filter has_octets) (split_head is_space ys)
    ∙ (cond-true (has_octets (take n ys)) (take n ys ∷ filter has_octets tail) (filter has_octets tail) (lt-ltb 0 (length (take n ys)) h)
    ∙ ap (λ (l : List (List ℕ)). take n ys ∷ l) (sym (ap (filter has_octets) (rest_head is_space ys))))

skip_one : (c : ℕ) (text : List ℕ) → is_space c ≡ true → words (c ∷ text) ≡ words text
unfolding words
skip_one c text t = ap (filter has_octets) (slice_split-cons_yes is_space (to_ascii_lowercase c) (map to_ascii_lowercase text) (space-lower c ∙ t))

-- the spaces at the front are no part of a word
pub words_skip : (text : List ℕ) → words text ≡ words (drop (position_or_len not_space text) text)
words_skip [] = refl
words_skip (c ∷ text) =
    elim (cases_Bool (is_space c)) [
      | inl t ↦
          let n : position_or_len not_space (c ∷ text) ≡ suc (position_or_len not_space text) = len-no not_space c text (ap not t) in
          skip_one c text t ∙ (words_skip text ∙ sym (ap (λ (k : ℕ). words (drop k (c ∷ text))) n))
      | inr f ↦ sym (ap (λ (k : ℕ). words (drop k (c ∷ text))) (len-yes not_space c text (ap not f)))
    ]

pub words_first : (c : ℕ) (text : List ℕ) → is_space c ≡ false → words (c ∷ text) ≡ map to_ascii_lowercase (take (position_or_len is_space (c ∷ text)) (c ∷ text)) ∷ words (drop (position_or_len is_space (c ∷ text)) (c ∷ text))
unfolding words split_words
words_first c text f =
    let n = position_or_len is_space (c ∷ text) in
    let ys = map to_ascii_lowercase (c ∷ text) in
    let same : position_or_len is_space ys ≡ n = word_len-lower (c ∷ text) in
    let k : position_or_len is_space ys ≡ suc (position_or_len is_space (map to_ascii_lowercase text)) = len-no is_space (to_ascii_lowercase c) (map to_ascii_lowercase text) (space-lower c ∙ f) in
    let some : 0 < length (take (position_or_len is_space ys) ys) = subst (λ (j : ℕ). 0 < length (take j ys)) (sym k) (omega arith) in
    first_of_split ys some
    ∙ (ap (λ (j : ℕ). take j ys ∷ split_words (drop j ys)) same
    ∙ (ap (λ (w : List ℕ). w ∷ split_words (drop n ys)) (take-map to_ascii_lowercase n (c ∷ text))
    ∙ ap (λ (r : List ℕ). map to_ascii_lowercase (take n (c ∷ text)) ∷ split_words r) (drop-map to_ascii_lowercase n (c ∷ text))))

-- what `next_word` finds: nothing, where only spaces stand
pub no_word : (text rest : List ℕ) → rest ≡ drop (position_or_len not_space text) text → rest ≡ [] → words text ≡ []
unfolding words
no_word text rest e z = words_skip text ∙ ap words (sym e ∙ z)

-- the rest after the spaces at the front begins with no space
begins : (text : List ℕ) → 0 < length (drop (position_or_len not_space text) text) → is_space (get_or (drop (position_or_len not_space text) text) 0 0) ≡ false
begins [] h = absurd (omega arith)
begins (c ∷ text) h =
    elim (cases_Bool (is_space c)) [
      | inl t ↦
          let n : position_or_len not_space (c ∷ text) ≡ suc (position_or_len not_space text) = len-no not_space c text (ap not t) in
          let g : 0 < length (drop (position_or_len not_space text) text) = subst (λ (k : ℕ). 0 < length (drop k (c ∷ text))) n h in
          ap (λ (k : ℕ). is_space (get_or (drop k (c ∷ text)) 0 0)) n ∙ begins text g
      | inr f ↦ ap (λ (k : ℕ). is_space (get_or (drop k (c ∷ text)) 0 0)) (len-yes not_space c text (ap not f)) ∙ f
    ]

word_by : (rest : List ℕ) → 0 < length rest → is_space (get_or rest 0 0) ≡ false → (words rest ≡ map to_ascii_lowercase (take (position_or_len is_space rest) rest) ∷ words (drop (position_or_len is_space rest) rest)) × (0 < position_or_len is_space rest)
word_by [] h f = absurd (omega arith)
word_by (c ∷ rest) h f = (words_first c rest f, omega (arith, len-no is_space c rest f))

pub found_word : (text rest word after : List ℕ) → rest ≡ drop (position_or_len not_space text) text → 0 < length rest
    → word ≡ take (position_or_len is_space rest) rest → after ≡ drop (position_or_len is_space rest) rest → BeginsWithWord text word after
found_word text rest word after e h w a =
    let by = word_by rest h (ap (λ (l : List ℕ). is_space (get_or l 0 0)) e ∙ begins text (subst (λ (l : List ℕ). 0 < length l) e h)) in
    record {
      first = words_skip text ∙ (sym (ap words e) ∙ (by.0 ∙ (ap (λ (l : List ℕ). map to_ascii_lowercase l ∷ words (drop (position_or_len is_space rest) rest)) (sym w)
          ∙ ap (λ (l : List ℕ). map to_ascii_lowercase word ∷ words l) (sym a))));
      shorter = omega (arith, by.1, ap length a, length-drop (position_or_len is_space rest) rest, ap length e, length-drop (position_or_len not_space text) text);
    }

-- where `position` finds nothing
pub len_none : {X : Type 0} (p : X → Bool) (xs : List X) → position p xs ≡ None → length xs ≡ position_or_len p xs
len_none p xs e =
    elim (cases_lt (position_or_len p xs) (length xs)) [
      | inl lt ↦ let f = cond-true (nat_lt (position_or_len p xs) (length xs)) (Some (position_or_len p xs)) None (lt-ltb (position_or_len p xs) (length xs) lt) in cc
      | inr le ↦ omega (arith, prefix_len-le-length (λ x. not (p x)) xs)
    ]

-- words without spaces
abbrev Free : List (List ℕ) → Type 0
Free [] = Unit {0}
Free (w ∷ ws) = All (λ c. is_space c ≡ false) w × Free ws

abbrev pub Plain : List (List ℕ) → Type 0
Plain [] = Unit {0}
Plain (w ∷ ws) = (0 < length w) × All (λ c. is_space c ≡ false) w × Plain ws

free_onto : (c : ℕ) (ws : List (List ℕ)) → is_space c ≡ false → Free ws → Free (onto_first c ws)
free_onto c [] f h = (All-cons (λ k. is_space k ≡ false) c [] f (All-nil (λ k. is_space k ≡ false)), tt)
free_onto c (w ∷ ws) f h = (All-cons (λ k. is_space k ≡ false) c w f h.0, h.1)

free_split : (ys : List ℕ) → Free (slice_split is_space ys)
free_split [] = (All-nil (λ k. is_space k ≡ false), tt)
free_split (y ∷ ys) =
    elim (cases_Bool (is_space y)) [
      | inl t ↦ subst Free (sym (slice_split-cons_yes is_space y ys t)) (All-nil (λ k. is_space k ≡ false), free_split ys)
      | inr f ↦ subst Free (sym (slice_split-cons_no is_space y ys f)) (free_onto y (slice_split is_space ys) f (free_split ys))
    ]

plain_filter : (ws : List (List ℕ)) → Free ws → Plain (filter has_octets ws)
plain_filter [] h = tt
plain_filter ([] ∷ ws) h = plain_filter ws h.1
plain_filter ((c ∷ w) ∷ ws) h =
    let p : 0 < length (c ∷ w) = omega arith in
    subst Plain (sym (cond-true (has_octets (c ∷ w)) ((c ∷ w) ∷ filter has_octets ws) (filter has_octets ws) (lt-ltb 0 (length (c ∷ w)) p)))
    (p, h.0, plain_filter ws h.1)

pub split_join : (w : List ℕ) (ws : List (List ℕ)) → Plain (w ∷ ws) → slice_split is_space (join_with_byte 32 (w ∷ ws)) ≡ w ∷ ws
split_join w [] h = slice_split_none is_space w h.1
split_join w (v ∷ ws) h =
    slice_split_at is_space w 32 (join_with_byte 32 (v ∷ ws)) h.1 refl
    ∙ ap (λ (l : List (List ℕ)). w ∷ l) (split_join v ws h.2)

join_some : (w : List ℕ) (ws : List (List ℕ)) → Plain (w ∷ ws) → 0 < length (join_with_byte 32 (w ∷ ws))
join_some w [] h = h.0
join_some w (v ∷ ws) h = omega (arith, h.0, length-append w (32 ∷ join_with_byte 32 (v ∷ ws)))

same_joined : (vs ws : List (List ℕ)) → Plain vs → Plain ws → join_with_byte 32 vs ≡ join_with_byte 32 ws → vs ≡ ws
same_joined [] [] p q e = refl
same_joined [] (w ∷ ws) p q e = absurd (omega (arith, join_some w ws q, ap length e))
same_joined (v ∷ vs) [] p q e = absurd (omega (arith, join_some v vs p, ap length e))
same_joined (v ∷ vs) (w ∷ ws) p q e = sym (split_join v vs p) ∙ (ap (slice_split is_space) e ∙ split_join w ws q)

pub plain_words : (text : List ℕ) → Plain (words text)
unfolding words
plain_words text = plain_filter (slice_split is_space (map to_ascii_lowercase text)) (free_split (map to_ascii_lowercase text))

-- the words, and so the prepared text, decide each other
pub same_words : (a b : List ℕ) → prepared a ≡ prepared b → words a ≡ words b
same_words a b e = same_joined (words a) (words b) (plain_words a) (plain_words b) e

-- the rests have equal words exactly where the whole texts have
pub record SameFrom (a b c d : List ℕ) : Type 0 where
  pub onward : words a ≡ words b → words c ≡ words d
  pub back : words c ≡ words d → words a ≡ words b

pub same_more : (a b c d v w e f : List ℕ) → SameFrom a b c d → BeginsWithWord c v e → BeginsWithWord d w f → map to_ascii_lowercase v ≡ map to_ascii_lowercase w → SameFrom a b e f
same_more a b c d v w e f h p q s =
    let x = p.first in
    let y = q.first in
    record {
      onward = λ k. let z = h.onward k in cc;
      back = λ k. h.back (x ∙ (ap (λ (l : List (List ℕ)). map to_ascii_lowercase v ∷ l) k ∙ (ap (λ (l : List ℕ). l ∷ words f) s ∙ sym y)));
    }

pub ends_differ : (a b c d : List ℕ) (v w e f : List ℕ) → SameFrom a b c d → BeginsWithWord c v e → BeginsWithWord d w f → (map to_ascii_lowercase v ≡ map to_ascii_lowercase w → ⊥) → prepared a ≡ prepared b → ⊥
ends_differ a b c d v w e f h p q n k =
    let x = p.first in
    let y = q.first in
    let z = h.onward (same_words a b k) in
    n (cc)

pub ends_apart : (a b c d w f : List ℕ) → SameFrom a b c d → words c ≡ [] → BeginsWithWord d w f → prepared a ≡ prepared b → ⊥
ends_apart a b c d w f h x q k =
    let y = q.first in
    let z = h.onward (same_words a b k) in
    cc

pub apart_ends : (a b c d w f : List ℕ) → SameFrom a b c d → BeginsWithWord c w f → words d ≡ [] → prepared a ≡ prepared b → ⊥
apart_ends a b c d w f h q x k =
    let y = q.first in
    let z = h.onward (same_words a b k) in
    cc
