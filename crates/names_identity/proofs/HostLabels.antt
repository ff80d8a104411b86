-- The labels of a text, from the left, and what makes it a host.
use Rattle.std.proofs.Common.{◌≡◌, ◌<◌, ◌≤◌, ◌+◌, ℕ, List, [], ◌∷◌, ◌++◌, length, take, drop, true, false, Some, None, refl, sym, ◌∙◌, ap, subst, arith, append_assoc, length-drop, nat_lt, nat_le}
use Rattle.std.specs.List.{All, list_all, position, sum_by}
use Rattle.std.specs.Char.{is_ascii_digit}
use Rattle.std.proofs.lemmas.Bool.{and_parts, and_from, both_ways, ltb-true, leb-true, lt-ltb, le-leb}
use Rattle.std.proofs.lemmas.List.{drop_at, length-take-le}
use Rattle.std.proofs.lemmas.List.Elements.{All-nil, All-head, All-drop, All-push, All-same}
use Rattle.std.proofs.lemmas.List.Quantifiers.{position-Some}
use Rattle.std.proofs.lemmas.List.Splits.{slice_split_first, slice_split_none}
use Rattle.std.proofs.lemmas.List.Sums.{sum_by_push, list_all-from_AllPass, AllPass-from_list_all}
use Rattle.names.specs.Dns.{is_dot, is_label_length}
use Rattle.names_distinguished.proofs.Laws.{same_ends}
use Rattle.names_identity.specs.Host.{dotted_parts, HasLabelLength, octets_and_dot, IsFirstBadLabelAt, IsLastLabelAt, IsNumberAt}
use Rattle.names_identity.proofs.Positions.{some_is, none_passes}

pub parts_at : (text : List ℕ) (i : ℕ) → position is_dot text ≡ Some i → dotted_parts text ≡ take i text ∷ dotted_parts (drop (i + 1) text)
parts_at text i h =
    let e = some_is is_dot text i h in
    let s = position-Some is_dot text i 0 h in
    slice_split_first is_dot text 0 (omega (arith, s.0)) ∙ ap (λ (n : ℕ). take n text ∷ dotted_parts (drop (n + 1) text)) e

pub parts_none : (text : List ℕ) → position is_dot text ≡ None → dotted_parts text ≡ text ∷ []
parts_none text h = slice_split_none is_dot text (none_passes is_dot text h)

label_length : (n : ℕ) → is_label_length n ≡ true → (0 < n) × (n ≤ 63)
label_length n t = let a = and_parts (nat_lt 0 n) (nat_le n 63) t in (ltb-true 0 n a.0, leb-true n 63 a.1)

no_label_length : (n : ℕ) → is_label_length n ≡ false → (0 < n) × (n ≤ 63) → ⊥
no_label_length n f h = both_ways (is_label_length n) f (and_from (nat_lt 0 n) (nat_le n 63) (lt-ltb 0 n h.0) (le-leb n 63 h.1))

-- the labels before the rest have lengths of labels, and the rest begins here
pub record IsWalked (text rest : List ℕ) (begin : ℕ) : Type 0 where
  pub before : List (List ℕ)
  pub cut : dotted_parts text ≡ before ++ dotted_parts rest
  pub good : All HasLabelLength before
  pub place : begin ≡ sum_by octets_and_dot before
  pub whole : begin + length rest ≡ length text

pub walk_starts : (text : List ℕ) → IsWalked text text 0
walk_starts text = record { before = []; cut = refl; good = All-nil HasLabelLength; place = refl; whole = omega arith }

module _ (text rest : List ℕ) (begin : ℕ) (w : IsWalked text rest begin) where
  cut_at : (i : ℕ) → position is_dot rest ≡ Some i → dotted_parts text ≡ w.before ++ take i rest ∷ dotted_parts (drop (i + 1) rest)
  cut_at i h = w.cut ∙ ap (λ (l : List (List ℕ)). w.before ++ l) (parts_at rest i h)

  cut_last : position is_dot rest ≡ None → dotted_parts text ≡ w.before ++ rest ∷ []
  cut_last h = w.cut ∙ ap (λ (l : List (List ℕ)). w.before ++ l) (parts_none rest h)

  pub walk_goes_on :
      (i : ℕ) → position is_dot rest ≡ Some i → is_label_length i ≡ true →
      IsWalked text (drop (i + 1) rest) (begin + (i + 1))
  walk_goes_on i h t =
      let s = position-Some is_dot rest i 0 h in
      let n : length (take i rest) ≡ i = length-take-le i rest (omega (arith, s.0)) in
      record {
        before = w.before ++ take i rest ∷ [];
        cut = cut_at i h ∙ sym (append_assoc w.before (take i rest ∷ []) (dotted_parts (drop (i + 1) rest)));
        good = All-push HasLabelLength w.before (take i rest) w.good (subst (λ (k : ℕ). (0 < k) × (k ≤ 63)) (sym n) (label_length i t));
        place = omega (arith, w.place, sum_by_push octets_and_dot w.before (take i rest));
        whole = omega (arith, w.whole, s.0, length-drop (i + 1) rest);
      }

  pub walk_meets_bad : (i : ℕ) → position is_dot rest ≡ Some i → is_label_length i ≡ false → IsFirstBadLabelAt text begin
  walk_meets_bad i h f =
      let s = position-Some is_dot rest i 0 h in
      let n : length (take i rest) ≡ i = length-take-le i rest (omega (arith, s.0)) in (
        record { before = w.before; part = take i rest; behind = dotted_parts (drop (i + 1) rest); cut = cut_at i h; place = w.place },
        w.good,
        λ l. no_label_length i f (subst (λ (k : ℕ). (0 < k) × (k ≤ 63)) n l),
      )

  pub walk_ends : position is_dot rest ≡ None → is_label_length (length rest) ≡ true → IsLastLabelAt text begin rest
  walk_ends h t = record {
    labels = All-same HasLabelLength (dotted_parts text) (w.before ++ rest ∷ []) (cut_last h) (All-push HasLabelLength w.before rest w.good (label_length (length rest) t));
    before = w.before;
    cut = cut_last h;
    place = w.place;
  }

  pub walk_ends_bad : position is_dot rest ≡ None → is_label_length (length rest) ≡ false → IsFirstBadLabelAt text begin
  walk_ends_bad h f = (
    record { before = w.before; part = rest; behind = []; cut = cut_last h; place = w.place },
    w.good,
    λ l. no_label_length (length rest) f l,
  )

-- a host has no bad label
pub no_bad_label : (text : List ℕ) (at : ℕ) → All HasLabelLength (dotted_parts text) → IsFirstBadLabelAt text at → ⊥
no_bad_label text at all bad =
    let p = bad.0 in
    let rest = All-drop HasLabelLength (length p.before) (dotted_parts text) all in
    let e : drop (length p.before) (dotted_parts text) ≡ p.part ∷ p.behind =
    ap (λ (l : List (List ℕ)). drop (length p.before) l) p.cut ∙ drop_at p.before (p.part ∷ p.behind) (length p.before) refl in
    bad.2 (All-head HasLabelLength p.part p.behind (All-same HasLabelLength (p.part ∷ p.behind) (drop (length p.before) (dotted_parts text)) (sym e) rest))

pub number_at :
    (text : List ℕ) (at : ℕ) (label : List ℕ) → IsLastLabelAt text at label →
    list_all is_ascii_digit label ≡ true → IsNumberAt text at
number_at text at label l t = (
  record { before = l.before; part = label; behind = []; cut = l.cut; place = l.place },
  refl,
  AllPass-from_list_all is_ascii_digit label t,
)

first_same : {X : Type 0} (x y : X) (xs ys : List X) → x ∷ xs ≡ y ∷ ys → x ≡ y
first_same x y xs ys e = cc

pub no_number_at :
    (text : List ℕ) (at : ℕ) (label : List ℕ) → IsLastLabelAt text at label →
    list_all is_ascii_digit label ≡ false → (place : ℕ) → IsNumberAt text place → ⊥
no_number_at text at label l f place number =
    let p = number.0 in
    let e : l.before ++ label ∷ [] ≡ p.before ++ p.part ∷ [] = sym l.cut ∙ (p.cut ∙ ap (λ (rest : List (List ℕ)). p.before ++ p.part ∷ rest) number.1) in
    let same : label ≡ p.part = first_same label p.part [] [] (same_ends l.before (label ∷ []) p.before (p.part ∷ []) e refl).1 in
    both_ways (list_all is_ascii_digit label) f (ap (list_all is_ascii_digit) same ∙ list_all-from_AllPass is_ascii_digit p.part number.2)
