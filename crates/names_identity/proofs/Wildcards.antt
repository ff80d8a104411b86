-- Names and hosts by their first labels.
use Rattle.std.proofs.Common.{◌≡◌, ◌+◌, ℕ, List, [], ◌∷◌, length, take, drop, Bool, false, not, cond, Some, None, refl, sym, ◌∙◌, ap, arith, rules, inl, inr}
use Rattle.std.specs.List.{slice_split, join_with_byte, position, position_or_len}
use Rattle.std.specs.Char.{to_ascii_lowercase}
use Rattle.std.proofs.lemmas.Bool.{cases_eq, ne_eqb}
use Rattle.std.proofs.lemmas.List.{length-map, take-map, drop-map}
use Rattle.std.proofs.lemmas.List.Elements.{All-map}
use Rattle.std.proofs.lemmas.List.Quantifiers.{position-Some}
use Rattle.std.proofs.lemmas.List.Splits.{slice_split_first, slice_split_none, join_with_byte-slice_split}
use Rattle.names.specs.Dns.{is_dot, labels}
use Rattle.names_identity.specs.Identity.{folded, MatchesByWildcard}
use Rattle.names_distinguished.proofs.Laws.{slice_split_nonempty}
use Rattle.names_identity.proofs.Positions.{some_is, none_passes}

ne_lower : (c : ℕ) → (c ≡ 46 → ⊥) → to_ascii_lowercase c ≡ 46 → ⊥
ne_lower c n h = grind (arith, rules)

pub dot-lower : (c : ℕ) → is_dot (to_ascii_lowercase c) ≡ is_dot c
dot-lower c =
    elim (cases_eq c 46) [
      | inl e ↦ ap (λ (k : ℕ). is_dot (to_ascii_lowercase k)) e ∙ sym (ap is_dot e)
      | inr n ↦ ne_eqb (to_ascii_lowercase c) 46 (ne_lower c n) ∙ sym (ne_eqb c 46 n)
    ]

position-folded : (text : List ℕ) → position_or_len is_dot (folded text) ≡ position_or_len is_dot text
position-folded [] = refl
position-folded (c ∷ text) =
    ap (λ (b : Bool). cond (not b) (1 + position_or_len is_dot (folded text)) 0) (dot-lower c)
    ∙ ap (λ (n : ℕ). cond (not (is_dot c)) (1 + n) 0) (position-folded text)

pub labels_at : (text : List ℕ) (i : ℕ) → position is_dot text ≡ Some i → labels text ≡ folded (take i text) ∷ labels (drop (i + 1) text)
labels_at text i h =
    let e : position_or_len is_dot (folded text) ≡ i = position-folded text ∙ some_is is_dot text i h in
    let s = position-Some is_dot text i 0 h in
    let n : length (folded text) ≡ length text = length-map text to_ascii_lowercase in
    slice_split_first is_dot (folded text) 0 (omega (arith, s.0))
    ∙ (ap (λ (k : ℕ). take k (folded text) ∷ slice_split is_dot (drop (k + 1) (folded text))) e
    ∙ (ap (λ (l : List ℕ). l ∷ slice_split is_dot (drop (i + 1) (folded text))) (take-map to_ascii_lowercase i text)
    ∙ ap (λ (l : List ℕ). folded (take i text) ∷ slice_split is_dot l) (drop-map to_ascii_lowercase (i + 1) text)))

pub labels_none : (text : List ℕ) → position is_dot text ≡ None → labels text ≡ folded text ∷ []
labels_none text h =
    let none = none_passes is_dot text h in
    slice_split_none is_dot (folded text)
    (All-map (λ (c : ℕ). is_dot c ≡ false) to_ascii_lowercase text (λ k d below. dot-lower _ ∙ none k d below))

joined_labels : (text : List ℕ) → join_with_byte 46 (labels text) ≡ folded text
joined_labels text = join_with_byte-slice_split 46 (folded text)

pub same_labels : (a b : List ℕ) → labels a ≡ labels b → folded a ≡ folded b
same_labels a b e = sym (joined_labels a) ∙ (ap (λ (l : List (List ℕ)). join_with_byte 46 l) e ∙ joined_labels b)

ne_star : (c : ℕ) → to_ascii_lowercase c ≡ 42 → c ≡ 42
ne_star c h = grind (arith, rules)

is_star : (text : List ℕ) → folded text ≡ 42 ∷ [] → text ≡ 42 ∷ []
is_star [] h = cc
is_star (c ∷ []) h = let e : to_ascii_lowercase c ≡ 42 = cc in ap (λ (k : ℕ). k ∷ []) (ne_star c e)
is_star (c ∷ d ∷ text) h = cc

-- names and hosts of two labels and more
pub wildcard_matches :
    (name host first rest left behind : List ℕ) → labels name ≡ folded first ∷ labels rest → labels host ≡ folded left ∷ labels behind →
    first ≡ 42 ∷ [] → folded rest ≡ folded behind → MatchesByWildcard name host
wildcard_matches name host first rest left behind n h star same = record {
  first = folded left;
  rest = labels rest;
  some = slice_split_nonempty is_dot (folded rest);
  wildcard = n ∙ ap (λ (l : List ℕ). folded l ∷ labels rest) star;
  same = h ∙ ap (λ (l : List ℕ). folded left ∷ slice_split is_dot l) (sym same);
}

heads : {X : Type 0} (x y : X) (xs ys : List X) → x ∷ xs ≡ y ∷ ys → (x ≡ y) × (xs ≡ ys)
heads x y xs ys e = (cc, cc)

pub wildcard_matched :
    (name host first rest left behind : List ℕ) → labels name ≡ folded first ∷ labels rest → labels host ≡ folded left ∷ labels behind →
    MatchesByWildcard name host → (first ≡ 42 ∷ []) × (folded rest ≡ folded behind)
wildcard_matched name host first rest left behind n h m =
    let a = heads (folded first) (42 ∷ []) (labels rest) m.rest (sym n ∙ m.wildcard) in
    let b = heads (folded left) m.first (labels behind) m.rest (sym h ∙ m.same) in
    (is_star first a.0, same_labels rest behind (a.1 ∙ sym b.1))
