-- What stands before and behind the first octet of those that end a part.
use Rattle.std.proofs.Common.{◌≡◌, ◌≤◌, ◌<◌, ◌+◌, ◌⊎◌, ℕ, List, [], ◌∷◌, ◌++◌, length, take, drop, get_or, Bool, true, false, refl, sym, ◌∙◌, ap, inl, inr, arith, append-nil}
use Rattle.std.specs.List.{All, list_any, position_or_len}
use Rattle.std.proofs.lemmas.Bool.{cases_lt, or_right, or_left, or_from}
use Rattle.std.proofs.lemmas.List.{take_all, drop_all, length-take-le, get_or-take}
use Rattle.std.proofs.lemmas.List.Elements.{All-head, All-tail, All-from_get_or}
use Rattle.std.proofs.lemmas.List.Sums.{split_at_first, fails_before_first, passes_at_first}
use Rattle.names_hosts.specs.Uri.{is_one_of, HasNone, IsCut, before_any, behind_any}
use Rattle.names_hosts.proofs.UriTexts.{one_cut}

-- a text that has one of these, or that has none
pub record HasFirst (ends text : List ℕ) : Type 0 where
  pub first : ℕ
  pub cut : IsCut ends text (before_any ends text) (first ∷ behind_any ends text)

pub record IsUncut (ends text : List ℕ) : Type 0 where
  pub before : before_any ends text ≡ text
  pub behind : behind_any ends text ≡ []
  pub cut : IsCut ends text text []

has_first : (ends text : List ℕ) → position_or_len (is_one_of ends) text < length text → HasFirst ends text
has_first ends text within =
    let p = is_one_of ends in
    let at = position_or_len p text in
    let n : length (take at text) ≡ at = length-take-le at text (omega arith) in
    record {
      first = get_or text at 0;
      cut = record {
        joined = split_at_first p text 0 within;
        none = All-from_get_or (λ (octet : ℕ). p octet ≡ false) (take at text) 0
            (λ k below. ap p (get_or-take at text k 0 (omega arith)) ∙ fails_before_first p text k 0 (omega arith));
        stops = passes_at_first p text 0 within;
      };
    }

is_uncut : (ends text : List ℕ) → length text ≤ position_or_len (is_one_of ends) text → IsUncut ends text
is_uncut ends text past =
    let p = is_one_of ends in
    let at = position_or_len p text in
    record {
      before = take_all at text past;
      behind = drop_all (at + 1) text (omega arith);
      cut = record {
        joined = sym (append-nil text);
        none = λ k d below. fails_before_first p text k d (omega arith);
        stops = tt;
      };
    }

pub cases_cut : (ends text : List ℕ) → HasFirst ends text ⊎ IsUncut ends text
cases_cut ends text =
    elim (cases_lt (position_or_len (is_one_of ends) text) (length text)) [
      | inl within ↦ inl (has_first ends text within)
      | inr past ↦ inr (is_uncut ends text past)
    ]

-- the parts of a text that is cut at one of these, and of one that is not
pub parts_of :
    (ends text front behind : List ℕ) (first : ℕ) → IsCut ends text front (first ∷ behind) →
    (before_any ends text ≡ front) × (behind_any ends text ≡ behind)
parts_of ends text front behind first cut =
    elim (cases_cut ends text) [
      | inl has ↦
          let same = one_cut ends text (before_any ends text) (has.first ∷ behind_any ends text) front (first ∷ behind) has.cut cut in
          (same.0, ap (drop 1) same.1)
      | inr whole ↦
          let same = one_cut ends text text [] front (first ∷ behind) whole.cut cut in
          absurd (omega (arith, ap length same.1))
    ]

pub parts_of_whole :
    (ends text front : List ℕ) → IsCut ends text front [] → (before_any ends text ≡ front) × (behind_any ends text ≡ [])
parts_of_whole ends text front cut =
    elim (cases_cut ends text) [
      | inl has ↦
          let same = one_cut ends text (before_any ends text) (has.first ∷ behind_any ends text) front [] has.cut cut in
          absurd (omega (arith, ap length same.1))
      | inr whole ↦
          let same = one_cut ends text text [] front [] whole.cut cut in
          (whole.before ∙ same.0, whole.behind)
    ]

pub front_of : (ends text front behind : List ℕ) → IsCut ends text front behind → before_any ends text ≡ front
front_of ends text front [] cut = (parts_of_whole ends text front cut).0
front_of ends text front (first ∷ behind) cut = (parts_of ends text front behind first cut).0

-- whether a text has one of these
one_among : (p : ℕ → Bool) (front behind : List ℕ) (first : ℕ) → p first ≡ true → list_any p (front ++ first ∷ behind) ≡ true
one_among p [] behind first t = or_left (p first) (list_any p behind) t
one_among p (octet ∷ front) behind first t = or_right (p octet) (list_any p (front ++ first ∷ behind)) (one_among p front behind first t)

none_among : (p : ℕ → Bool) (text : List ℕ) → All (λ octet. p octet ≡ false) text → list_any p text ≡ false
none_among p [] none = refl
none_among p (octet ∷ text) none =
    or_from (p octet) (list_any p text) (All-head (λ octet. p octet ≡ false) octet text none)
    (none_among p text (All-tail (λ octet. p octet ≡ false) octet text none))

pub has_one : (ends text front behind : List ℕ) (first : ℕ) → IsCut ends text front (first ∷ behind) → list_any (is_one_of ends) text ≡ true
has_one ends text front behind first cut =
    ap (list_any (is_one_of ends)) cut.joined ∙ one_among (is_one_of ends) front behind first cut.stops

pub has_none : (ends text : List ℕ) → HasNone ends text → list_any (is_one_of ends) text ≡ false
has_none ends text none = none_among (is_one_of ends) text none
