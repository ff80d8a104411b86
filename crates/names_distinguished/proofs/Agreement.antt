-- Two sets agree where every type of one is found in the other with its value: counted run by run.
use Rattle.std.proofs.Common.{◌≡◌, ◌≤◌, ◌+◌, ◌⊎◌, ℕ, suc, List, [], ◌∷◌, ◌++◌, length, Bool, true, false, Option, Some, None, refl, sym, ap, ◌∙◌, subst, inl, inr, arith, IsTrue, nat_eq}
use Rattle.std.specs.Prelude.{◌↔◌, is_some, if◌then◌else◌}
use Rattle.std.specs.List.{AllByRecursion}
use Rattle.std.specs.Cmp.Lexicographic.{pointwise}
use Rattle.std.proofs.lemmas.Bool.{both_ways, cases_Bool}
use Rattle.std.proofs.lemmas.Slice.Eq.{bytes_eq-Decides}
use Rattle.names_distinguished.specs.AttributeValue.{ComparedValue}
use Rattle.names_distinguished.specs.DistinguishedName.{ComparedAttribute, value_at, AgreeAt}
use Rattle.names_distinguished.specs.NameParts.{are_distinct}
use Rattle.names_distinguished.specs.Repetition.{comes_before}
use Rattle.names_distinguished.specs.Agreement.{rising, Fits, AllFit, found_in, IsCount, SearchesOn, StopsAt}
use Rattle.names_distinguished.proofs.Matching.{value_first, value_later, value_none}
use Rattle.names_distinguished.proofs.Distinct.{distinct_parts}
use Rattle.names_distinguished.proofs.Runs.{one_way, chain, not_before_itself}

-- what rises behind a type has no value of a type that doesn't come after it
none_in_rising : (kind last : List ℕ) (es : List ComparedAttribute) → comes_before last kind ≡ false → value_at kind (rising last es) ≡ None
none_in_rising kind last [] upto = value_none kind
none_in_rising kind last (e ∷ es) upto = by (comes_before last e.0) refl (λ before. none_in_rising kind e.0 es (chain e.0 last kind (one_way last e.0 before) upto)) where
  by : (b : Bool) → comes_before last e.0 ≡ b → (comes_before last e.0 ≡ true → value_at kind (rising e.0 es) ≡ None) → value_at kind (if b then e ∷ rising e.0 es else []) ≡ None
  by false is later = value_none kind
  by true is later = value_later kind e (rising e.0 es) (λ same. both_ways (comes_before last e.0) (subst (λ (k : List ℕ). comes_before last k ≡ false) same upto) is) ∙ later is

-- the first of what is left of a run decides
pub found_first : (kind : List ℕ) (e : ComparedAttribute) (es : List ComparedAttribute) → e.0 ≡ kind → Some e.1 ≡ value_at kind (e ∷ es)
found_first kind e es same = sym (value_first kind e es (sym same))

pub found_nowhere : (kind : List ℕ) (e : ComparedAttribute) (es : List ComparedAttribute) → StopsAt kind (e ∷ rising e.0 es) → (e.0 ≡ kind → ⊥) → None ≡ value_at kind (e ∷ rising e.0 es)
found_nowhere kind e es stops other = sym (value_later kind e (rising e.0 es) (λ same. other (sym same)) ∙ none_in_rising kind e.0 es stops)

-- types are passed over
pub found_past_none : (kind : List ℕ) (run : List ComparedAttribute) → SearchesOn kind run run
found_past_none kind run = record { same = λ other upto. refl }

pub found_past_more : (kind : List ℕ) (run rest others : List ComparedAttribute) (e : ComparedAttribute) → SearchesOn kind run rest → rest ≡ e ∷ others → comes_before e.0 kind ≡ true → SearchesOn kind run others
found_past_more kind run rest others e c is before = record {
  same = λ other upto. c.same other upto ∙ (ap (value_at other) is ∙ value_later other e others (λ same. both_ways (comes_before other kind) upto (subst (λ (k : List ℕ). comes_before k kind ≡ true) (sym same) before)));
}

pub stops_first : (kind : List ℕ) (rest others : List ComparedAttribute) (e : ComparedAttribute) → rest ≡ e ∷ others → comes_before e.0 kind ≡ false → StopsAt kind rest
stops_first kind rest others e is upto = subst (StopsAt kind) (sym is) upto

pub stops_none : (kind : List ℕ) (rest : List ComparedAttribute) → rest ≡ [] → StopsAt kind rest
stops_none kind rest is = subst (StopsAt kind) (sym is) tt

pub searches_later : (last kind : List ℕ) (run rest : List ComparedAttribute) → SearchesOn last run rest → comes_before kind last ≡ false → SearchesOn kind run rest
searches_later last kind run rest c upto = record { same = λ other later. c.same other (chain other kind last later upto) }

pub searches_back : (kind : List ℕ) (run chosen : List ComparedAttribute) → chosen ≡ run → SearchesOn kind run chosen
searches_back kind run chosen is = subst (SearchesOn kind run) (sym is) (found_past_none kind run)

pub searches_past : (kind : List ℕ) (run rest further : List ComparedAttribute) → SearchesOn kind run rest → SearchesOn kind rest further → SearchesOn kind run further
searches_past kind run rest further c d = record { same = λ other upto. c.same other upto ∙ d.same other upto }

pub found_of : (kind : List ℕ) (run rest : List ComparedAttribute) (o : Option ComparedValue) → SearchesOn kind run rest → o ≡ value_at kind rest → o ≡ value_at kind run
found_of kind run rest o c e = e ∙ sym (c.same kind (not_before_itself kind))

-- one of the types that are looked for: found or not, with its value or another
pub fits_found : (run : List ComparedAttribute) (e : ComparedAttribute) (v : ComparedValue) → Some v ≡ value_at e.0 run → v ≡ e.1 → Fits run e
fits_found run e v is same = record { only = λ w found. let z : Some v ≡ Some w = is ∙ found in cc }

pub fits_none : (run : List ComparedAttribute) (e : ComparedAttribute) → None ≡ value_at e.0 run → Fits run e
fits_none run e is = record { only = λ w found. let z : None ≡ Some w = is ∙ found in absurd cc }

-- how many are found: of one, of some, of all
one_found : (o : Option ComparedValue) (v : ComparedValue) → Some v ≡ o → 1 ≡ (if is_some o then 1 else 0) + 0
one_found None v e = absurd cc
one_found (Some w) v e = omega arith

none_found : (o : Option ComparedValue) → None ≡ o → 0 ≡ (if is_some o then 1 else 0) + 0
none_found None e = omega arith
none_found (Some w) e = absurd cc

pub count_one : (run : List ComparedAttribute) (e : ComparedAttribute) (v : ComparedValue) → Some v ≡ value_at e.0 run → 1 ≡ found_in run (e ∷ [])
unfolding found_in
count_one run e v is = one_found (value_at e.0 run) v is

pub count_none : (run : List ComparedAttribute) (e : ComparedAttribute) → None ≡ value_at e.0 run → 0 ≡ found_in run (e ∷ [])
unfolding found_in
count_none run e is = none_found (value_at e.0 run) is

pub count_next : (run es : List ComparedAttribute) (e : ComparedAttribute) → found_in run (e ∷ es) ≡ found_in run (e ∷ []) + found_in run es
unfolding found_in
count_next run es e = omega arith

pub count_end : (run : List ComparedAttribute) → found_in run [] ≡ 0
unfolding found_in
count_end run = refl

one_at_most : (b : Bool) → (if b then 1 else 0) ≤ 1
one_at_most true = omega arith
one_at_most false = omega arith

pub count_bound : (run es : List ComparedAttribute) → found_in run es ≤ length es
unfolding found_in
count_bound run [] = omega arith
count_bound run (e ∷ es) =
    let h = count_bound run es in
    let one = one_at_most (is_some (value_at e.0 run)) in
    omega arith

-- what is left of a run says the same of a type that doesn't come before
pub fits_left : (kind : List ℕ) (run rest : List ComparedAttribute) (e : ComparedAttribute) → SearchesOn kind run rest → kind ≡ e.0 → Fits rest e → Fits run e
fits_left kind run rest e c is fits = record {
  only = λ v found. fits.only v (sym (c.same e.0 (subst (λ (k : List ℕ). comes_before e.0 k ≡ false) (sym is) (not_before_itself e.0))) ∙ found);
}

pub fits_right : (kind : List ℕ) (run rest : List ComparedAttribute) (e : ComparedAttribute) → SearchesOn kind run rest → kind ≡ e.0 → Fits run e → Fits rest e
fits_right kind run rest e c is fits = record {
  only = λ v found. fits.only v (c.same e.0 (subst (λ (k : List ℕ). comes_before e.0 k ≡ false) (sym is) (not_before_itself e.0)) ∙ found);
}

pub count_left : (kind : List ℕ) (run rest : List ComparedAttribute) (e : ComparedAttribute) → SearchesOn kind run rest → kind ≡ e.0 → found_in rest (e ∷ []) ≡ found_in run (e ∷ [])
unfolding found_in
count_left kind run rest e c is =
    ap (λ (o : Option ComparedValue). (if is_some o then 1 else 0) + 0) (sym (c.same e.0 (subst (λ (k : List ℕ). comes_before e.0 k ≡ false) (sym is) (not_before_itself e.0))))

-- the walk over a set
pub record IsCounted (run whole rest : List ComparedAttribute) (count : ℕ) : Type 0 where
  pub onward : AllFit run whole → AllFit run rest
  pub back : AllFit run rest → AllFit run whole
  pub total : count + found_in run rest ≡ found_in run whole

pub count_begins : (run whole : List ComparedAttribute) → IsCounted run whole whole 0
count_begins run whole = record { onward = λ h. h; back = λ h. h; total = omega arith }

pub count_more : (run whole rest others : List ComparedAttribute) (e : ComparedAttribute) (count found : ℕ) → IsCounted run whole rest count → rest ≡ e ∷ others → Fits run e → found ≡ found_in run (e ∷ [])
    → IsCounted run whole others (count + found)
count_more run whole rest others e count found h is fits n = record {
  onward = λ a. (subst (AllFit run) is (h.onward a)).1;
  back = λ a. h.back (subst (AllFit run) (sym is) (fits, a));
  total =
      let t = h.total in
      let r = ap (found_in run) is in
      let s = count_next run others e in
      omega arith;
}

pub count_fails : (run whole rest others : List ComparedAttribute) (e : ComparedAttribute) (count : ℕ) → IsCounted run whole rest count → rest ≡ e ∷ others → (Fits run e → ⊥) → AllFit run whole → ⊥
count_fails run whole rest others e count h is wrong a = wrong (subst (AllFit run) is (h.onward a)).0

pub count_short : (run whole rest others : List ComparedAttribute) (e : ComparedAttribute) (count found : ℕ) → IsCounted run whole rest count → rest ≡ e ∷ others → found ≡ found_in run (e ∷ []) → count + found ≤ length whole
count_short run whole rest others e count found h is n =
    let t = h.total in
    let r = ap (found_in run) is in
    let s = count_next run others e in
    let b = count_bound run whole in
    omega arith

pub counted : (run whole rest : List ComparedAttribute) (count : ℕ) → IsCounted run whole rest count → rest ≡ [] → IsCount run whole count
counted run whole rest count h is = record {
  fits = h.back (subst (AllFit run) (sym is) tt);
  number = let t = h.total in let r = ap (found_in run) is in let z = count_end run in omega arith;
}

-- a list of two parts, with no type twice
pub value_in_first : (kind : List ℕ) (run rest : List ComparedAttribute) (v : ComparedValue) → value_at kind run ≡ Some v → value_at kind (run ++ rest) ≡ Some v
value_in_first kind [] rest v e = let z : None ≡ Some v = sym (value_none kind) ∙ e in absurd cc
value_in_first kind (d ∷ ds) rest v e =
    elim (cases_Bool (pointwise nat_eq kind d.0)) [
      | inl t ↦
          let same = (bytes_eq-Decides kind d.0).0 t in
          value_first kind d (ds ++ rest) same ∙ (sym (value_first kind d ds same) ∙ e)
      | inr f ↦
          let other = λ (same : kind ≡ d.0). both_ways (pointwise nat_eq kind d.0) f ((bytes_eq-Decides kind d.0).1 same) in
          value_later kind d (ds ++ rest) other ∙ value_in_first kind ds rest v (sym (value_later kind d ds other) ∙ e)
    ]

pub value_in_rest : (kind : List ℕ) (run rest : List ComparedAttribute) → value_at kind run ≡ None → value_at kind (run ++ rest) ≡ value_at kind rest
value_in_rest kind [] rest e = refl
value_in_rest kind (d ∷ ds) rest e =
    elim (cases_Bool (pointwise nat_eq kind d.0)) [
      | inl t ↦ let z : None ≡ Some d.1 = sym e ∙ value_first kind d ds ((bytes_eq-Decides kind d.0).0 t) in absurd cc
      | inr f ↦
          let other = λ (same : kind ≡ d.0). both_ways (pointwise nat_eq kind d.0) f ((bytes_eq-Decides kind d.0).1 same) in
          value_later kind d (ds ++ rest) other ∙ value_in_rest kind ds rest (sym (value_later kind d ds other) ∙ e)
    ]

pub value_or_none : (o : Option ComparedValue) → (o ≡ None) ⊎ ((v : ComparedValue) × (o ≡ Some v))
value_or_none None = inl refl
value_or_none (Some v) = inr (v, refl)

none_in_both : (kind : List ℕ) (run rest : List ComparedAttribute) → value_at kind (run ++ rest) ≡ None → value_at kind rest ≡ None
none_in_both kind run rest e =
    elim (value_or_none (value_at kind run)) [
      | inl n ↦ sym (value_in_rest kind run rest n) ∙ e
      | inr (v, s) ↦ let z : None ≡ Some v = sym e ∙ value_in_first kind run rest v s in absurd cc
    ]

-- a type of the first part is none of the second
pub never_twice : (kind : List ℕ) (run rest : List ComparedAttribute) (v : ComparedValue) → IsTrue (are_distinct (run ++ rest)) → value_at kind run ≡ Some v → value_at kind rest ≡ None
never_twice kind [] rest v distinct e = let z : None ≡ Some v = sym (value_none kind) ∙ e in absurd cc
never_twice kind (d ∷ ds) rest v distinct e =
    let p = distinct_parts d (ds ++ rest) distinct in
    elim (cases_Bool (pointwise nat_eq kind d.0)) [
      | inl t ↦ subst (λ (k : List ℕ). value_at k rest ≡ None) (sym ((bytes_eq-Decides kind d.0).0 t)) (none_in_both d.0 ds rest p.0)
      | inr f ↦
          let other = λ (same : kind ≡ d.0). both_ways (pointwise nat_eq kind d.0) f ((bytes_eq-Decides kind d.0).1 same) in
          never_twice kind ds rest v p.1 (sym (value_later kind d ds other) ∙ e)
    ]

distinct_rest : (run rest : List ComparedAttribute) → IsTrue (are_distinct (run ++ rest)) → IsTrue (are_distinct rest)
distinct_rest [] rest h = h
distinct_rest (d ∷ ds) rest h = distinct_rest ds rest (distinct_parts d (ds ++ rest) h).1

fits_run : (run rest : List ComparedAttribute) (e : ComparedAttribute) → Fits (run ++ rest) e → Fits run e
fits_run run rest e fits = record { only = λ v found. fits.only v (value_in_first e.0 run rest v found) }

fits_rest : (run rest : List ComparedAttribute) (e : ComparedAttribute) → IsTrue (are_distinct (run ++ rest)) → Fits (run ++ rest) e → Fits rest e
fits_rest run rest e distinct fits = record {
  only = λ v found.
      elim (value_or_none (value_at e.0 run)) [
        | inl n ↦ fits.only v (value_in_rest e.0 run rest n ∙ found)
        | inr (w, s) ↦ let z : None ≡ Some v = sym (never_twice e.0 run rest w distinct s) ∙ found in absurd cc
      ];
}

fits_both : (run rest : List ComparedAttribute) (e : ComparedAttribute) → Fits run e → Fits rest e → Fits (run ++ rest) e
fits_both run rest e here there = record {
  only = λ v found.
      elim (value_or_none (value_at e.0 run)) [
        | inl n ↦ there.only v (sym (value_in_rest e.0 run rest n) ∙ found)
        | inr (w, s) ↦ here.only v (s ∙ (sym (value_in_first e.0 run rest w s) ∙ found))
      ];
}

all_in_run : (run rest es : List ComparedAttribute) → AllFit (run ++ rest) es → AllFit run es
all_in_run run rest [] h = tt
all_in_run run rest (e ∷ es) h = (fits_run run rest e h.0, all_in_run run rest es h.1)

all_in_rest : (run rest es : List ComparedAttribute) → IsTrue (are_distinct (run ++ rest)) → AllFit (run ++ rest) es → AllFit rest es
all_in_rest run rest [] distinct h = tt
all_in_rest run rest (e ∷ es) distinct h = (fits_rest run rest e distinct h.0, all_in_rest run rest es distinct h.1)

all_in_both : (run rest es : List ComparedAttribute) → AllFit run es → AllFit rest es → AllFit (run ++ rest) es
all_in_both run rest [] h k = tt
all_in_both run rest (e ∷ es) h k = (fits_both run rest e h.0 k.0, all_in_both run rest es h.1 k.1)

one_of_two : (run rest : List ComparedAttribute) (kind : List ℕ) → IsTrue (are_distinct (run ++ rest))
    → (if is_some (value_at kind (run ++ rest)) then 1 else 0) ≡ (if is_some (value_at kind run) then 1 else 0) + (if is_some (value_at kind rest) then 1 else 0)
one_of_two run rest kind distinct =
    elim (value_or_none (value_at kind run)) [
      | inl n ↦ rw (value_in_rest kind run rest n, n) (omega arith)
      | inr (v, s) ↦ rw (value_in_first kind run rest v s, s, never_twice kind run rest v distinct s) (omega arith)
    ]

pub count_both : (run rest es : List ComparedAttribute) → IsTrue (are_distinct (run ++ rest)) → found_in (run ++ rest) es ≡ found_in run es + found_in rest es
unfolding found_in
count_both run rest [] distinct = refl
count_both run rest (e ∷ es) distinct =
    let h = count_both run rest es distinct in
    let one = one_of_two run rest e.0 distinct in
    omega arith

-- the walk over the runs of the other set
pub record IsAgreed (set whole rest : List ComparedAttribute) (found : ℕ) : Type 0 where
  pub onward : AllFit whole set → AllFit rest set
  pub back : AllFit rest set → AllFit whole set
  pub total : found + found_in rest set ≡ found_in whole set
  pub distinct : IsTrue (are_distinct rest)

pub agreed_begins : (set whole : List ComparedAttribute) → IsTrue (are_distinct whole) → IsAgreed set whole whole 0
agreed_begins set whole distinct = record { onward = λ h. h; back = λ h. h; total = omega arith; distinct = distinct }

pub agreed_more : (set whole rest run others : List ComparedAttribute) (found count : ℕ) → IsAgreed set whole rest found → rest ≡ run ++ others → AllFit run set → count ≡ found_in run set
    → IsAgreed set whole others (found + count)
agreed_more set whole rest run others found count h is fits n =
    let distinct : IsTrue (are_distinct (run ++ others)) = subst (λ (es : List ComparedAttribute). IsTrue (are_distinct es)) is h.distinct in
    record {
      onward = λ a. all_in_rest run others set distinct (subst (λ (es : List ComparedAttribute). AllFit es set) is (h.onward a));
      back = λ a. h.back (subst (λ (es : List ComparedAttribute). AllFit es set) (sym is) (all_in_both run others set fits a));
      total =
          let t = h.total in
          let r = ap (λ (es : List ComparedAttribute). found_in es set) is in
          let s = count_both run others set distinct in
          omega arith;
      distinct = distinct_rest run others distinct;
    }

pub agreed_fails : (set whole rest run others : List ComparedAttribute) (found : ℕ) → IsAgreed set whole rest found → rest ≡ run ++ others → (AllFit run set → ⊥) → AllFit whole set → ⊥
agreed_fails set whole rest run others found h is wrong a = wrong (all_in_run run others set (subst (λ (es : List ComparedAttribute). AllFit es set) is (h.onward a)))

pub agreed_short : (set whole rest run others : List ComparedAttribute) (found count : ℕ) → IsAgreed set whole rest found → rest ≡ run ++ others → count ≡ found_in run set → found + count ≤ length set
agreed_short set whole rest run others found count h is n =
    let distinct : IsTrue (are_distinct (run ++ others)) = subst (λ (es : List ComparedAttribute). IsTrue (are_distinct es)) is h.distinct in
    let t = h.total in
    let r = ap (λ (es : List ComparedAttribute). found_in es set) is in
    let s = count_both run others set distinct in
    let b = count_bound whole set in
    omega arith

-- in a set with no type twice each attribute is the one of its type
abbrev pub OwnValue : List ComparedAttribute → ComparedAttribute → Type 0
OwnValue es e = value_at e.0 es ≡ Some e.1

own_behind : (e : ComparedAttribute) (es ds : List ComparedAttribute) → value_at e.0 es ≡ None → AllByRecursion (OwnValue es) ds → AllByRecursion (OwnValue (e ∷ es)) ds
own_behind e es [] none h = tt
own_behind e es (d ∷ ds) none h = (
  value_later d.0 e es (λ same. let z : None ≡ Some d.1 = sym none ∙ (ap (λ (k : List ℕ). value_at k es) (sym same) ∙ h.0) in absurd cc) ∙ h.0,
  own_behind e es ds none h.1,
)

pub own_values : (es : List ComparedAttribute) → IsTrue (are_distinct es) → AllByRecursion (OwnValue es) es
own_values [] distinct = tt
own_values (e ∷ es) distinct =
    let p = distinct_parts e es distinct in
    (value_first e.0 e es refl, own_behind e es es p.0 (own_values es p.1))

-- where as many are found as there are, each is found
pub one_is : (b : Bool) (n m : ℕ) → (if b then 1 else 0) + n ≡ suc m → n ≤ m → (b ≡ true) × (n ≡ m)
one_is true n m e le = (refl, omega arith)
one_is false n m e le = absurd (omega arith)

some_value : (o : Option ComparedValue) → is_some o ≡ true → (v : ComparedValue) × (o ≡ Some v)
some_value None e = absurd cc
some_value (Some v) e = (v, refl)

agree_all : (set whole es : List ComparedAttribute) → AllByRecursion (OwnValue set) es → AllFit whole es → found_in whole es ≡ length es → AllByRecursion (λ e. AgreeAt set whole e.0) es
unfolding found_in
agree_all set whole [] own fits e = tt
agree_all set whole (d ∷ ds) own fits e =
    let one = one_is (is_some (value_at d.0 whole)) (found_in whole ds) (length ds) e (count_bound whole ds) in
    let there = some_value (value_at d.0 whole) one.0 in (
      record { same = own.0 ∙ (ap (λ (v : ComparedValue). Some v) (sym (fits.0.only there.0 there.1)) ∙ sym there.1) },
      agree_all set whole ds own.1 fits.1 one.1,
    )

pub all_found : (set whole es : List ComparedAttribute) → AllByRecursion (OwnValue set) es → AllByRecursion (λ e. AgreeAt set whole e.0) es → found_in whole es ≡ length es
unfolding found_in
all_found set whole [] own agree = refl
all_found set whole (d ∷ ds) own agree =
    let h = all_found set whole ds own.1 agree.1 in
    rw (sym agree.0.same ∙ own.0) (omega arith)

fits_nothing : (es : List ComparedAttribute) → AllFit [] es
fits_nothing [] = tt
fits_nothing (e ∷ es) = (fits_none [] e (sym (value_none e.0)), fits_nothing es)

pub none_in_nothing : (es : List ComparedAttribute) → found_in [] es ≡ 0
unfolding found_in
none_in_nothing [] = refl
none_in_nothing (e ∷ es) = let h = none_in_nothing es in rw (value_none e.0) (omega arith)

pub agreed : (set whole rest : List ComparedAttribute) (found count : ℕ) (b : Bool) → IsAgreed set whole rest found → rest ≡ [] → IsTrue (are_distinct set) → count ≡ length set → (IsTrue b ↔ (found ≡ count))
    → (IsTrue b ↔ AllByRecursion (λ e. AgreeAt set whole e.0) set)
agreed set whole rest found count b h is distinct n test =
    let own = own_values set distinct in
    let fits = h.back (subst (λ (es : List ComparedAttribute). AllFit es set) (sym is) (fits_nothing set)) in
    let none = ap (λ (es : List ComparedAttribute). found_in es set) is ∙ none_in_nothing set in
    let all : found ≡ found_in whole set = let t = h.total in omega arith in (
      λ t. agree_all set whole set own fits (sym all ∙ (test.0 t ∙ n)),
      λ agree. test.1 (all ∙ (all_found set whole set own agree ∙ sym n)),
    )

all_fit : (set whole es : List ComparedAttribute) → AllByRecursion (OwnValue set) es → AllByRecursion (λ e. AgreeAt set whole e.0) es → AllFit whole es
all_fit set whole [] own agree = tt
all_fit set whole (d ∷ ds) own agree = (
  record { only = λ v found. let z : Some v ≡ Some d.1 = sym found ∙ (sym agree.0.same ∙ own.0) in cc },
  all_fit set whole ds own.1 agree.1,
)

pub disagreed : (set whole : List ComparedAttribute) → (AllFit whole set → ⊥) → IsTrue (are_distinct set) → AllByRecursion (λ e. AgreeAt set whole e.0) set → ⊥
disagreed set whole wrong distinct agree = wrong (all_fit set whole set (own_values set distinct) agree)
