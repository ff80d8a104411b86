-- Lists of places that grow at their ends.
use Rattle.std.proofs.Common.{vec_len, ◌==◌, true, ◌≡◌, ◌≢◌, ◌<◌, ◌+◌, ℕ, List, [], ◌∷◌, ◌++◌, length, get_or, take, set, arith, refl, ap, sym, ◌∙◌, subst, inl, inr, get_or-set_same, get_or-set_other}
use Rattle.std.specs.Global.{Vec}
use Rattle.std.specs.List.{Contains}
use Rattle.std.specs.List.Sorted.{IsStrictlyIncreasing}
use Rattle.std.proofs.lemmas.Bool.{cases_lt, eqb-true}
use Rattle.std.proofs.lemmas.List.{take_more, length-map, length-set, get_or-map}
use Rattle.std.proofs.lemmas.List.Elements.{Contains-push, Contains-append_left, Contains-push_cases}
use Rattle.path_issuers.specs.Lists.{lists_of, list_at, ArePlacesBefore, Adds, AreTurnedBefore}
use Rattle.path_issuers.proofs.Rising.{contains_or_not, same_or_not, rises_with, earlier_is_less}

-- a list at a place gets one more
module _ (lists : List (List ℕ)) (at : ℕ) (more : ℕ) where
  abbrev grown : List (List ℕ)
  grown = set lists at (list_at lists at ++ more ∷ [])

  grown_there : at < length lists → (n : ℕ) → n ≡ at → list_at grown n ≡ list_at lists n ++ more ∷ []
  grown_there there n e =
      subst (λ (m : ℕ). list_at grown m ≡ list_at lists m ++ more ∷ []) (sym e) (get_or-set_same lists at (list_at lists at ++ more ∷ []) [] there)

  grown_elsewhere : (n : ℕ) → n ≢ at → list_at grown n ≡ list_at lists n
  grown_elsewhere n other = get_or-set_other lists at n (list_at lists at ++ more ∷ []) [] other

-- the places before a bound where numbers stand

module _ (numbers : List ℕ) (bound : ℕ) (lists : List (List ℕ)) (there : get_or numbers bound 0 < length lists)
    (are : ArePlacesBefore bound numbers lists) where
  abbrev number : ℕ
  number = get_or numbers bound 0

  abbrev with_next : List (List ℕ)
  with_next = grown lists number bound

  places_next : (n place : ℕ) → Contains (list_at with_next n) place → (place < bound + 1) × (get_or numbers place 0 ≡ n)
  places_next n place h =
      elim (same_or_not n number) [
        | inl e ↦ elim (Contains-push_cases (list_at lists n) bound place
            (subst (λ (xs : List ℕ). Contains xs place) (grown_there lists number bound there n e) h)) [
              | inl old ↦ let was = are.places n place old in (omega (arith, was.0), was.1)
              | inr new ↦ (omega (arith, new), ap (λ m. get_or numbers m 0) (sym new) ∙ sym e)
            ]
        | inr other ↦
            let was = are.places n place (subst (λ (xs : List ℕ). Contains xs place) (grown_elsewhere lists number bound n other) h) in
            (omega (arith, was.0), was.1)
      ]

  keeps : (n place : ℕ) → Contains (list_at lists n) place → Contains (list_at with_next n) place
  keeps n place h =
      elim (same_or_not n number) [
        | inl e ↦ subst (λ (xs : List ℕ). Contains xs place) (sym (grown_there lists number bound there n e))
            (Contains-append_left (list_at lists n) (bound ∷ []) place h)
        | inr other ↦ subst (λ (xs : List ℕ). Contains xs place) (sym (grown_elsewhere lists number bound n other)) h
      ]

  all_next : (place : ℕ) → place < bound + 1 → Contains (list_at with_next (get_or numbers place 0)) place
  all_next place before =
      elim (cases_lt place bound) [
        | inl old ↦ keeps (get_or numbers place 0) place (are.all place old)
        | inr last ↦
            let e : place ≡ bound = omega arith in
            subst (λ (p : ℕ). Contains (list_at with_next (get_or numbers p 0)) p) (sym e)
            (subst (λ (xs : List ℕ). Contains xs bound) (sym (grown_there lists number bound there number refl)) (Contains-push (list_at lists number) bound))
      ]

  ascending_next : (n : ℕ) → IsStrictlyIncreasing (list_at with_next n)
  ascending_next n =
      elim (same_or_not n number) [
        | inl e ↦ subst (λ (xs : List ℕ). IsStrictlyIncreasing xs) (sym (grown_there lists number bound there n e))
            (rises_with (list_at lists n) bound (are.ascending n) (λ x h. (are.places n x h).0))
        | inr other ↦ subst (λ (xs : List ℕ). IsStrictlyIncreasing xs) (sym (grown_elsewhere lists number bound n other)) (are.ascending n)
      ]

  pub places_more : ArePlacesBefore (bound + 1) numbers with_next
  places_more = record { places = places_next; all = all_next; ascending = ascending_next }

-- a place is added to several lists

module _ (place : ℕ) (ats : List ℕ) (up : IsStrictlyIncreasing ats) (i : ℕ) (within : i < length ats) (old new : List (List ℕ))
    (there : get_or ats i 0 < length new) where
  abbrev at : ℕ
  at = get_or ats i 0

  abbrev added_to : List (List ℕ)
  added_to = grown new at place

  pub adds_more : Adds place (take i ats) old new → Adds place (take (i + 1) ats) old added_to
  adds_more adds =
      let more : take (i + 1) ats ≡ take i ats ++ at ∷ [] = take_more ats i 0 within in
      record {
        added = λ n h. elim (Contains-push_cases (take i ats) at n (subst (λ (xs : List ℕ). Contains xs n) more h)) [
          | inl before ↦
              let less : n < at = earlier_is_less ats up i within n before in
              grown_elsewhere new at place n (λ e. let no : at < at = subst (λ (m : ℕ). m < at) e less in omega arith) ∙ adds.added n before
          | inr e ↦
              grown_there new at place there n (sym e)
              ∙ ap (λ xs. xs ++ place ∷ []) (adds.kept n
              (λ before. let less : n < at = earlier_is_less ats up i within n before in let no : n < n = subst (λ (m : ℕ). n < m) e less in omega arith))
        ];
        kept = λ n none.
            grown_elsewhere new at place n
            (λ e. none (subst (λ (xs : List ℕ). Contains xs n) (sym more)
            (subst (λ (m : ℕ). Contains (take i ats ++ at ∷ []) m) (sym e) (Contains-push (take i ats) at))))
            ∙ adds.kept n (λ before. none (subst (λ (xs : List ℕ). Contains xs n) (sym more) (Contains-append_left (take i ats) (at ∷ []) n before)));
      }

-- the places before a bound in whose lists others are

module _ (bound : ℕ) (lists turned next : List (List ℕ)) (are : AreTurnedBefore bound lists turned) (adds : Adds bound (list_at lists bound) turned next) where
  turned_places : (place at : ℕ) → Contains (list_at next at) place → (place < bound + 1) × Contains (list_at lists place) at
  turned_places place at h =
      elim (contains_or_not (list_at lists bound) at) [
        | inl in_list ↦ elim (Contains-push_cases (list_at turned at) bound place (subst (λ (xs : List ℕ). Contains xs place) (adds.added at in_list) h)) [
          | inl old ↦ let was = are.places place at old in (omega (arith, was.0), was.1)
          | inr e ↦ (omega (arith, e), subst (λ (p : ℕ). Contains (list_at lists p) at) e in_list)
        ]
        | inr other ↦
            let was = are.places place at (subst (λ (xs : List ℕ). Contains xs place) (adds.kept at other) h) in
            (omega (arith, was.0), was.1)
      ]

  turned_keeps : (place at : ℕ) → Contains (list_at turned at) place → Contains (list_at next at) place
  turned_keeps place at h =
      elim (contains_or_not (list_at lists bound) at) [
        | inl in_list ↦ subst (λ (xs : List ℕ). Contains xs place) (sym (adds.added at in_list)) (Contains-append_left (list_at turned at) (bound ∷ []) place h)
        | inr other ↦ subst (λ (xs : List ℕ). Contains xs place) (sym (adds.kept at other)) h
      ]

  turned_all : (place at : ℕ) → place < bound + 1 → Contains (list_at lists place) at → Contains (list_at next at) place
  turned_all place at before h =
      elim (cases_lt place bound) [
        | inl old ↦ turned_keeps place at (are.all place at old h)
        | inr last ↦
            let e : place ≡ bound = omega arith in
            subst (λ (p : ℕ). Contains (list_at next at) p) (sym e)
            (subst (λ (xs : List ℕ). Contains xs bound) (sym (adds.added at (subst (λ (p : ℕ). Contains (list_at lists p) at) e h)))
            (Contains-push (list_at turned at) bound))
      ]

  turned_ascending : (at : ℕ) → IsStrictlyIncreasing (list_at next at)
  turned_ascending at =
      elim (contains_or_not (list_at lists bound) at) [
        | inl in_list ↦ subst (λ (xs : List ℕ). IsStrictlyIncreasing xs) (sym (adds.added at in_list))
            (rises_with (list_at turned at) bound (are.ascending at) (λ x h. (are.places x at h).0))
        | inr other ↦ subst (λ (xs : List ℕ). IsStrictlyIncreasing xs) (sym (adds.kept at other)) (are.ascending at)
      ]

  pub turned_more : AreTurnedBefore (bound + 1) lists next
  turned_more = record { places = turned_places; all = turned_all; ascending = turned_ascending }

-- how many lists there are

pub same_count : (old new : Vec (Vec ℕ)) (at : ℕ) (list : List ℕ) → lists_of new.items ≡ set (lists_of old.items) at list → vec_len new ≡ vec_len old
same_count old new at list e =
    let items = λ (list : Vec ℕ). list.items in
    omega (arith, old.ok.0, new.ok.0, ap length e, length-set {A = List ℕ} (lists_of old.items) at list, length-map new.items items, length-map old.items items)

pub count_is : (lists : Vec (Vec ℕ)) → length (lists_of lists.items) ≡ vec_len lists
count_is lists = omega (arith, lists.ok.0, length-map lists.items (λ (list : Vec ℕ). list.items))

-- a list of the code
pub list_there : (lists : List (Vec ℕ)) (at : ℕ) (list : Vec ℕ) → at < length lists → list ≡ get_or lists at list → list_at (lists_of lists) at ≡ list.items
list_there lists at list there is = get_or-map (λ (list : Vec ℕ). list.items) lists at list [] there ∙ ap (λ (list : Vec ℕ). list.items) (sym is)

nothing : (xs : List ℕ) → length xs ≡ 0 → xs ≡ []
nothing [] e = refl
nothing (x ∷ xs) e = absurd (omega arith)

pub empty_if : (list : Vec ℕ) → (vec_len list == 0) ≡ true → list.items ≡ []
empty_if list e = nothing list.items (omega (arith, list.ok.0, eqb-true (vec_len list) 0 e))
