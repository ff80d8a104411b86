-- Runs of ascending types, and the search through one for the types of earlier attributes.
use Rattle.std.proofs.Common.{◌≡◌, ◌<◌, ◌≤◌, ℕ, List, [], ◌∷◌, ◌++◌, length, true, false, refl, sym, ap, ◌∙◌, subst, inl, inr, arith, append_assoc}
use Rattle.std.specs.Prelude.{nat_lt}
use Rattle.std.specs.List.{AllByRecursion}
use Rattle.std.specs.declared.cmp.Ordering.{Ordering}
use Rattle.std.specs.declared.cmp.Ordering.TheVariants.{Less, Equal, Greater}
use Rattle.std.specs.Ordering.{nat_cmp, is_lt, ordering_then}
use Rattle.std.specs.Cmp.{IsStrictWeakOrder, nat_cmp_is}
use Rattle.std.specs.Cmp.Lexicographic.{slice_cmp}
use Rattle.std.proofs.lemmas.Bool.{both_ways, false_from_ne_true, cases_order, lt-ltb, le-ltb}
use Rattle.std.proofs.lemmas.Cmp.{nat_list_cmp_total}
use Rattle.std.proofs.lemmas.List.Sorted.{ranks_by}
use Rattle.names_distinguished.specs.Repetition.{Placed, comes_before, Rises, Ascends, LacksType, EndsBefore, Covers, IsPast, SearchGoesOn, IsLimitBefore, IsNew, AreNew, IsRest}

-- the order of types
rank : IsStrictWeakOrder (λ (kind other : List ℕ). is_lt (slice_cmp nat_cmp (length kind ∷ kind) (length other ∷ other)))
rank = ranks_by nat_list_cmp_total (λ (kind : List ℕ). length kind ∷ kind)

pub one_way : (a b : List ℕ) → comes_before a b ≡ true → comes_before b a ≡ false
unfolding comes_before
one_way a b e = rank.one_way a b e

pub chain : (a b c : List ℕ) → comes_before a b ≡ false → comes_before b c ≡ false → comes_before a c ≡ false
unfolding comes_before
chain a b c e f = rank.chain a b c e f

pub never_itself : (a b : List ℕ) → comes_before a b ≡ true → a ≡ b → ⊥
never_itself a b e same = both_ways (comes_before b b) (one_way b b (subst (λ (k : List ℕ). comes_before k b ≡ true) same e)) (subst (λ (k : List ℕ). comes_before k b ≡ true) same e)

pub not_before_itself : (kind : List ℕ) → comes_before kind kind ≡ false
not_before_itself kind = false_from_ne_true (comes_before kind kind) (λ e. never_itself kind kind e refl)

lt_by_number : (a b : ℕ) (o : Ordering) → (a ≡ b → ⊥) → nat_lt a b ≡ is_lt (ordering_then (nat_cmp a b) o)
lt_by_number a b o apart =
    elim (cases_order a b) [
      | inl same ↦ absurd (apart same)
      | inr (inl lt) ↦ lt-ltb a b lt ∙ ap (λ (r : Ordering). is_lt (ordering_then r o)) (nat_cmp_is a b Less lt)
      | inr (inr gt) ↦ le-ltb a b (omega arith) ∙ ap (λ (r : Ordering). is_lt (ordering_then r o)) (nat_cmp_is a b Greater gt)
    ]

pub none_before : (kind : List ℕ) → comes_before kind [] ≡ false
unfolding comes_before
none_before [] = refl
none_before (x ∷ xs) = sym (lt_by_number (length (x ∷ xs)) 0 (slice_cmp nat_cmp (x ∷ xs) []) (λ e. omega arith)) ∙ le-ltb (length (x ∷ xs)) 0 (omega arith)

pub before_by_length : (kind other : List ℕ) → (length kind ≡ length other → ⊥) → nat_lt (length kind) (length other) ≡ comes_before kind other
unfolding comes_before
before_by_length kind other apart = lt_by_number (length kind) (length other) (slice_cmp nat_cmp kind other) apart

pub before_by_octets : (kind other : List ℕ) → length kind ≡ length other → is_lt (slice_cmp nat_cmp kind other) ≡ comes_before kind other
unfolding comes_before
before_by_octets kind other same =
    ap (λ (r : Ordering). is_lt (ordering_then r (slice_cmp nat_cmp kind other))) (nat_cmp_is (length kind) (length other) Equal same)

-- what ascends behind a type has none that comes before it, nor that type
rises_apart : (limit : ℕ) (kind last : List ℕ) (xs : List Placed) → comes_before last kind ≡ false → Rises limit last xs → LacksType limit kind xs
rises_apart limit kind last [] upto rises = tt
rises_apart limit kind last (x ∷ xs) upto rises = λ below.
    let r = rises below in (
      λ same. both_ways (comes_before last x.1) (subst (λ (k : List ℕ). comes_before last k ≡ false) (sym same) upto) r.0,
      rises_apart limit kind x.1 xs (chain x.1 last kind (one_way last x.1 r.0) upto) r.1,
    )

rises_apart_last : (limit : ℕ) (kind : List ℕ) (xs : List Placed) → Rises limit kind xs → LacksType limit kind xs
rises_apart_last limit kind xs rises = rises_apart limit kind kind xs (not_before_itself kind) rises

-- a lesser limit asks for less
rises_within : (limit least : ℕ) (kind : List ℕ) (xs : List Placed) → least ≤ limit → Rises limit kind xs → Rises least kind xs
rises_within limit least kind [] le rises = tt
rises_within limit least kind (x ∷ xs) le rises = λ below. let r = rises (omega arith) in (r.0, rises_within limit least x.1 xs le r.1)

ascends_within : (limit least : ℕ) (xs : List Placed) → least ≤ limit → Ascends limit xs → Ascends least xs
ascends_within limit least [] le up = tt
ascends_within limit least (x ∷ xs) le up = λ below. rises_within limit least x.1 xs le (up (omega arith))

apart_within : (limit least : ℕ) (kind : List ℕ) (xs : List Placed) → least ≤ limit → LacksType limit kind xs → LacksType least kind xs
apart_within limit least kind [] le apart = tt
apart_within limit least kind (x ∷ xs) le apart = λ below. let a = apart (omega arith) in (a.0, apart_within limit least kind xs le a.1)

rises_tail : (limit : ℕ) (kind : List ℕ) (xs : List Placed) → Rises limit kind xs → Ascends limit xs
rises_tail limit kind [] rises = tt
rises_tail limit kind (x ∷ xs) rises = λ below. (rises below).1

-- types are passed over one by one
pub past_none : (kind : List ℕ) (run : List Placed) → Covers kind run run
past_none kind run = record { back = λ other limit upto apart. apart }

pub past_more : (kind : List ℕ) (run rest others : List Placed) (x : Placed) → Covers kind run rest → rest ≡ x ∷ others → comes_before x.1 kind ≡ true → Covers kind run others
past_more kind run rest others x c is before = record {
  back = λ other limit upto apart.
      c.back other limit upto (subst (LacksType limit other) (sym is) (λ below. (
        λ same. both_ways (comes_before other kind) upto (subst (λ (k : List ℕ). comes_before k kind ≡ true) same before),
        apart,
      )));
}

pub ascends_more : (limit : ℕ) (run rest others : List Placed) (x : Placed) → (Ascends limit run → Ascends limit rest) → rest ≡ x ∷ others → x.0 < limit → Ascends limit run → Ascends limit others
ascends_more limit run rest others x h is below up = rises_tail limit x.1 others (subst (Ascends limit) is (h up) below)

pub stops_here : (limit : ℕ) (kind : List ℕ) (rest others : List Placed) (x : Placed) → rest ≡ x ∷ others → ((x.0 < limit) → comes_before x.1 kind ≡ false) → EndsBefore limit kind rest
stops_here limit kind rest others x is h = subst (EndsBefore limit kind) (sym is) h

pub stops_at_end : (limit : ℕ) (kind : List ℕ) (rest : List Placed) → rest ≡ [] → EndsBefore limit kind rest
stops_at_end limit kind rest is = subst (EndsBefore limit kind) (sym is) tt

-- a search goes on in the run, or in what is left of it
pub goes_back : (last kind : List ℕ) (run rest chosen : List Placed) → chosen ≡ run → SearchGoesOn last kind run rest chosen
goes_back last kind run rest chosen is = record {
  covers = λ c. subst (Covers kind run) (sym is) (past_none kind run);
  ascends = λ limit up rest_up. subst (Ascends limit) (sym is) up;
}

pub goes_on : (last kind : List ℕ) (run rest : List Placed) → comes_before kind last ≡ false → SearchGoesOn last kind run rest rest
goes_on last kind run rest upto = record {
  covers = λ c. record { back = λ other limit later apart. c.back other limit (chain other kind last later upto) apart };
  ascends = λ limit up rest_up. rest_up;
}

-- the limit before a type
pub limit_here : (kind : List ℕ) (limit : ℕ) (rest others : List Placed) (x : Placed) → rest ≡ x ∷ others → x.0 < limit → IsLimitBefore kind limit rest x.0
limit_here kind limit rest others x is below = record {
  within = omega arith;
  apart = λ up stops. subst (LacksType x.0 kind) (sym is) (λ wrong. absurd (omega arith));
}

pub limit_stays : (kind : List ℕ) (limit : ℕ) (rest others : List Placed) (x : Placed) → rest ≡ x ∷ others → ((x.0 < limit) → x.1 ≡ kind → ⊥) → IsLimitBefore kind limit rest limit
limit_stays kind limit rest others x is other = record {
  within = omega arith;
  apart = λ up stops. subst (LacksType limit kind) (sym is) (λ below. (
    other below,
    rises_apart limit kind x.1 others (subst (EndsBefore limit kind) is stops below) (subst (Ascends limit) is up below),
  ));
}

pub limit_at_end : (kind : List ℕ) (limit : ℕ) (rest : List Placed) → rest ≡ [] → IsLimitBefore kind limit rest limit
limit_at_end kind limit rest is = record {
  within = omega arith;
  apart = λ up stops. subst (LacksType limit kind) (sym is) tt;
}

-- the types of these attributes, up to the offset, are apart from a run
abbrev pub AreApart : ℕ → ℕ → List Placed → List Placed → Type 0
AreApart start limit run [] = Unit {0}
AreApart start limit run (x ∷ xs) = x.0 < start → LacksType limit x.1 run × AreApart start limit run xs

-- the search through a run for the types of all earlier attributes, of which some are left, with what is left of the run
pub record IsSearch (all run left rest : List Placed) (last : List ℕ) (start limit : ℕ) : Type 0 where
  pub run_ascends : Ascends limit run
  pub rest_ascends : Ascends limit rest
  pub covers : Covers last run rest
  pub looked : (least : ℕ) → least ≤ limit → AreApart start least run left → AreApart start least run all

pub search_begins : (all run rest : List Placed) (start limit : ℕ) → Ascends limit run → rest ≡ run → IsSearch all run all rest [] start limit
search_begins all run rest start limit up is = record {
  run_ascends = up;
  rest_ascends = subst (Ascends limit) (sym is) up;
  covers = subst (Covers [] run) (sym is) (past_none [] run);
  looked = λ least le apart. apart;
}

pub search_more : (all run left others rest chosen further : List Placed) (x : Placed) (last : List ℕ) (start limit least : ℕ)
    → IsSearch all run left rest last start limit → left ≡ x ∷ others → SearchGoesOn last x.1 run rest chosen → IsPast x.1 limit chosen further
    → IsLimitBefore x.1 limit further least → IsSearch all run others further x.1 start least
search_more all run left others rest chosen further x last start limit least h is on past new =
    let up : Ascends limit further = past.ascends (on.ascends limit h.run_ascends h.rest_ascends) in
    let chosen_covers : Covers x.1 run chosen = on.covers h.covers in
    let covers : Covers x.1 run further = record { back = λ other m upto apart. chosen_covers.back other m upto (past.covers.back other m upto apart) } in
    let apart : LacksType least x.1 run = covers.back x.1 least (not_before_itself x.1) (new.apart up past.stops) in
    record {
      run_ascends = ascends_within limit least run new.within h.run_ascends;
      rest_ascends = ascends_within limit least further new.within up;
      covers = covers;
      looked = λ m le later. h.looked m (let w = new.within in omega arith) (subst (AreApart start m run) (sym is) (λ below. (apart_within least m x.1 run le apart, later)));
    }

-- where the search ends, nothing earlier is left
EachApart : ℕ → List Placed → List Placed → Type 0
EachApart limit run earlier = AllByRecursion (λ e. LacksType limit e.1 run) earlier

each_apart : (start limit : ℕ) (run earlier rest : List Placed) → AllByRecursion (λ (x : Placed). x.0 < start) earlier → AreApart start limit run (earlier ++ rest) → EachApart limit run earlier
unfolding EachApart
each_apart start limit run [] rest below apart = tt
each_apart start limit run (e ∷ es) rest below apart = let a = apart below.0 in (a.0, each_apart start limit run es rest below.1 a.1)

each_tail : (limit : ℕ) (x : Placed) (xs earlier : List Placed) → x.0 < limit → EachApart limit (x ∷ xs) earlier → LacksType limit x.1 xs → EachApart limit xs (earlier ++ x ∷ [])
unfolding EachApart
each_tail limit x xs [] below each apart = (apart, tt)
each_tail limit x xs (e ∷ es) below each apart = ((each.0 below).1, each_tail limit x xs es below each.1 apart)

new_here : (limit : ℕ) (x : Placed) (xs earlier : List Placed) → x.0 < limit → EachApart limit (x ∷ xs) earlier → IsNew x.0 x.1 (earlier ++ x ∷ xs)
unfolding EachApart
new_here limit x xs [] below each = λ apart. absurd (apart refl)
new_here limit x xs (e ∷ es) below each = λ other. (λ same. (each.0 below).0 (sym same), new_here limit x xs es below each.1)

new_in : (limit : ℕ) (earlier run : List Placed) → EachApart limit run earlier → Ascends limit run → AreNew (earlier ++ run) limit run
new_in limit earlier [] each up = tt
new_in limit earlier (x ∷ xs) each up = λ below.
    let apart = rises_apart_last limit x.1 xs (up below) in (
      new_here limit x xs earlier below each,
      subst (λ (all : List Placed). AreNew all limit xs) (append_assoc earlier (x ∷ []) xs)
          (new_in limit (earlier ++ x ∷ []) xs (each_tail limit x xs earlier below each apart) (rises_tail limit x.1 xs (up below))),
    )

pub all_new : (all run : List Placed) (start limit : ℕ) → IsRest all run start → Ascends limit run → AreApart start limit run all → AreNew all limit run
all_new all run start limit h up apart =
    subst (λ (list : List Placed). AreNew list limit run) (sym h.joined)
    (new_in limit h.earlier run (each_apart start limit run h.earlier run h.below (subst (AreApart start limit run) h.joined apart)) up)

pub search_ends : (all run left rest : List Placed) (last : List ℕ) (start limit : ℕ) → IsSearch all run left rest last start limit → IsRest all run start
    → AreApart start limit run left → AreNew all limit run
search_ends all run left rest last start limit h is apart = all_new all run start limit is h.run_ascends (h.looked limit (omega arith) apart)

pub none_left : (start limit : ℕ) (run left : List Placed) → left ≡ [] → AreApart start limit run left
none_left start limit run left is = subst (AreApart start limit run) (sym is) tt

pub at_start : (start limit : ℕ) (run left others : List Placed) (x : Placed) → left ≡ x ∷ others → start ≤ x.0 → AreApart start limit run left
at_start start limit run left others x is le = subst (AreApart start limit run) (sym is) (λ below. absurd (omega arith))
