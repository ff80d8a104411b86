-- Rows in the order of their rowids: which a DELETE takes out, and where an INSERT puts one.
use Rattle.std.proofs.Common.{◌≡◌, zero, suc, ℤ, pos, ◌+ℤ◌, ◌<ℤ◌, List, [], ◌∷◌, ◌++◌, map, filter, Bool, true, false, not, ◌||◌, All, refl, sym, ap, ◌∙◌, inl, inr, Less, Equal, arith, true≢false, fold}
use Rattle.std.proofs.lemmas.Bool.{cases_Bool, or_parts, false_from_ne_true}
use Rattle.std.proofs.lemmas.Int.{ints}
use Rattle.std.specs.List.{AllByRecursion, list_any}
use Rattle.std.specs.List.Sorted.{IsPermutation}
use Rattle.std.proofs.lemmas.List.Sorted.{All-permutation, IsPermutation-sym}
use Rattle.std.proofs.lemmas.List.Folds.{list_any_none}
use Rattle.std.specs.Ordering.{is_eq, int_cmp, match_ordering}
use Rattle.std.specs.Cmp.{int_cmp_is}
use Rattle.std.proofs.lemmas.Cmp.{int_ranked}
use Rattle.sqlite_value.proofs.OrderLemmas.{value_cmp-Int}
use Rattle.sqlite.specs.declared.types.Value.TheVariants.{Int}
use Rattle.sqlite.specs.Order.{Row, value_cmp}
use Rattle.sqlite.specs.Tree.{rowid, has_rowid, put_row, without_rowid, IsAscending}
use Rattle.sqlite.specs.Edit.{id_in, next_rowid, numbered, without_all}
use Rattle.sqlite.specs.Rowids.TheVariants.{Chosen}
use Rattle.sqlite_rules.specs.Calls.{ids_of}
use Rattle.sqlite_rules.specs.Lists.{Has}
use Rattle.sqlite_rules.proofs.ListLemmas.{all_has, all_from, has_filtered, has_kept}

pub less_is : (m n : ℤ) → m <ℤ n → value_cmp (Int m) (Int n) ≡ Less
less_is m n low = value_cmp-Int m n ∙ sym (int_cmp_is m n Less low)

pub same_is : (m : ℤ) → is_eq (value_cmp (Int m) (Int m)) ≡ true
same_is m = ap is_eq (value_cmp-Int m m ∙ sym (int_cmp_is m m Equal refl))

pub other_is : (m n : ℤ) → ¬ (m ≡ n) → is_eq (value_cmp (Int m) (Int n)) ≡ false
other_is m n apart = false_from_ne_true _ (λ tied. apart (same_of (value_cmp (Int m) (Int n)) tied (value_cmp-Int m n)))
  where
    same_of : (o : Rattle.std.specs.declared.cmp.Ordering.Ordering) → is_eq o ≡ true → o ≡ int_cmp m n → m ≡ n
    same_of Rattle.std.specs.declared.cmp.Ordering.TheVariants.Less tied e = absurd (true≢false (sym tied))
    same_of Rattle.std.specs.declared.cmp.Ordering.TheVariants.Equal tied e = int_ranked m n Equal e
    same_of Rattle.std.specs.declared.cmp.Ordering.TheVariants.Greater tied e = absurd (true≢false (sym tied))

none_all : {X : Type 0} (p : X → Bool) (xs : List X) → list_any p xs ≡ false → All (λ x. p x ≡ false) xs
none_all p [] e k d within = absurd (omega (arith, within))
none_all p (x ∷ xs) e zero d within = (or_parts _ _ e).0
none_all p (x ∷ xs) e (suc k) d within = none_all p xs (or_parts _ _ e).1 k d (omega (arith, within))

pub none_moved : {X : Type 0} (p : X → Bool) (xs ys : List X) → IsPermutation xs ys → list_any p xs ≡ false → list_any p ys ≡ false
none_moved p xs ys same none = list_any_none p ys (All-permutation (λ x. p x ≡ false) xs ys same (none_all p xs none))

pub any_moved : {X : Type 0} (p : X → Bool) (xs ys : List X) → IsPermutation xs ys → list_any p ys ≡ list_any p xs
any_moved p xs ys same = elim (cases_Bool (list_any p xs)) [
  | inl some ↦ elim (cases_Bool (list_any p ys)) [
    | inl also ↦ also ∙ sym some
    | inr none ↦ absurd (true≢false (sym some ∙ none_moved p ys xs (IsPermutation-sym xs ys same) none))
  ]
  | inr none ↦ none_moved p xs ys same none ∙ sym none
]

filter_twice : {X : Type 0} (p q : X → Bool) (xs : List X) → filter (λ x. not (q x)) (filter (λ x. not (p x)) xs) ≡ filter (λ x. not (p x || q x)) xs
filter_twice p q [] = refl
filter_twice p q (x ∷ xs) = elim (cases_Bool (p x)) [
  | inl there ↦ rw (there, filter_twice p q xs)
  | inr here ↦ elim (cases_Bool (q x)) [
    | inl there ↦ rw (here, there, filter_twice p q xs)
    | inr gone ↦ rw (here, gone, filter_twice p q xs)
  ]
]

filter_all : {X : Type 0} (xs : List X) → filter (λ _. true) xs ≡ xs
filter_all [] = refl
filter_all (x ∷ xs) = ap (λ more. x ∷ more) (filter_all xs)

pub dropped : (ids : List ℤ) (rows : List Row) → without_all rows ids ≡ filter (λ r. not (list_any (λ i. has_rowid i r) ids)) rows
dropped [] rows = sym (filter_all rows)
dropped (i ∷ ids) rows = dropped ids (without_rowid i rows) ∙ filter_twice (has_rowid i) (λ r. list_any (λ j. has_rowid j r) ids) rows

any_ids : (r : Row) (found : List Row) → list_any (λ i. has_rowid i r) (ids_of found) ≡ list_any (λ f. has_rowid (id_in (rowid f)) r) found
any_ids r [] = refl
any_ids r (f ∷ found) = ap (λ b. has_rowid (id_in (rowid f)) r || b) (any_ids r found)

module _ {X : Type 0} (row : X → Row) (id : X → ℤ) (keyed : (x : X) → rowid (row x) ≡ Int (id x)) where
  -- rows that have their rowids keep them
  pub numbered_given : (all : List Row) (news : List X) → numbered Chosen all (map row news) ≡ map row news
  numbered_given all [] = refl
  numbered_given all (x ∷ news) = rw (keyed x) (ap (λ more. row x ∷ more) (numbered_given (put_row (row x) all) news))

  abbrev pub Rises : List X → Type 0
  Rises = IsAscending (λ a b. id a <ℤ id b)

  abbrev next_from : ℤ → List Row → ℤ
  next_from = fold (λ _ r. id_in (rowid r) +ℤ pos 1)

  above : (y s : ℤ) (xs : List X) → y <ℤ s → AllByRecursion (λ x. y <ℤ id x) xs → y <ℤ next_from s (map row xs)
  above y s [] low h = low
  above y s (x ∷ xs) low h = above y (id_in (rowid (row x)) +ℤ pos 1) xs (rw (keyed x) (let l = h.0 in grind (arith, ints))) h.1

  below_from : (s : ℤ) (xs : List X) → Rises xs → AllByRecursion (λ x. id x <ℤ next_from s (map row xs)) xs
  below_from s [] h = tt
  below_from s (x ∷ xs) h = (
    above (id x) (id_in (rowid (row x)) +ℤ pos 1) xs (rw (keyed x) (grind (arith, ints))) h.0,
    below_from (id_in (rowid (row x)) +ℤ pos 1) xs h.1,
  )

  pub below_next : (xs : List X) → Rises xs → AllByRecursion (λ x. id x <ℤ next_rowid (map row xs)) xs
  below_next = below_from (pos 1)

  pub put_last : (n : ℤ) (rest : Row) (xs : List X) → AllByRecursion (λ x. id x <ℤ n) xs → put_row (Int n ∷ rest) (map row xs) ≡ map row xs ++ (Int n ∷ rest) ∷ []
  put_last n rest [] h = refl
  put_last n rest (x ∷ xs) h = rw (keyed x, less_is (id x) n h.0) (ap (λ more. row x ∷ more) (put_last n rest xs h.1))

  has_id : (i : ℤ) (x : X) → has_rowid i (row x) ≡ is_eq (value_cmp (Int (id x)) (Int i))
  has_id i x = ap (λ v. is_eq (value_cmp v (Int i))) (keyed x)

  -- two items with one rowid are one
  same_item : (xs : List X) (x y : X) → Rises xs → Has xs x → Has xs y → id x ≡ id y → x ≡ y
  same_item [] x y up hx hy e = absurd hx
  same_item (z ∷ xs) x y up (inl a) (inl b) e = a ∙ sym b
  same_item (z ∷ xs) x y up (inl a) (inr b) e = absurd (let l = all_has (λ w. id z <ℤ id w) xs y up.0 b in let s : id z ≡ id y = ap id (sym a) ∙ e in grind (arith, ints))
  same_item (z ∷ xs) x y up (inr a) (inl b) e = absurd (let l = all_has (λ w. id z <ℤ id w) xs x up.0 a in let s : id z ≡ id x = ap id (sym b) ∙ sym e in grind (arith, ints))
  same_item (z ∷ xs) x y up (inr a) (inr b) e = same_item xs x y up.1 a b e

  abbrev shown_id : X → Row
  shown_id x = Int (id x) ∷ []

  abbrev hits : X → Row → Bool
  hits x f = has_rowid (id_in (rowid f)) (row x)

  hit_some : (p : X → Bool) (x : X) (ys : List X) → Has ys x → list_any (hits x) (map shown_id ys) ≡ true
  hit_some p x [] h = absurd h
  hit_some p x (y ∷ ys) (inl same) = rw (← same, has_id (id x) x, same_is (id x))
  hit_some p x (y ∷ ys) (inr later) = rw (hit_some p x ys later) (or_true (hits x (shown_id y)))
    where
      or_true : (b : Bool) → (b || true) ≡ true
      or_true true = refl
      or_true false = refl

  hit_none : (x : X) (ys : List X) → ((y : X) → Has ys y → ¬ (id x ≡ id y)) → list_any (hits x) (map shown_id ys) ≡ false
  hit_none x [] h = refl
  hit_none x (y ∷ ys) h = rw (has_id (id y) x, other_is (id x) (id y) (h y (inl refl))) (hit_none x ys (λ z more. h z (inr more)))

  taken : (p : X → Bool) (xs : List X) (x : X) → Rises xs → Has xs x → list_any (hits x) (map shown_id (filter p xs)) ≡ p x
  taken p xs x up there = elim (cases_Bool (p x)) [
    | inl passes ↦ hit_some p x (filter p xs) (has_kept p xs x there passes) ∙ sym passes
    | inr fails ↦ hit_none x (filter p xs) (λ y h e. let it = has_filtered p xs y h in
        let same = same_item xs x y up there it.0 e in true≢false (sym it.1 ∙ ap p (sym same) ∙ fails)) ∙ sym fails
  ]

  kept_rows : (p : X → Bool) (q : Row → Bool) (xs : List X) → ((x : X) → Has xs x → q (row x) ≡ not (p x)) → filter q (map row xs) ≡ map row (filter (λ x. not (p x)) xs)
  kept_rows p q [] h = refl
  kept_rows p q (x ∷ xs) h = elim (cases_Bool (p x)) [
    | inl gone ↦ rw (h x (inl refl), gone) (kept_rows p q xs (λ y more. h y (inr more)))
    | inr stays ↦ rw (h x (inl refl), stays) (ap (λ more. row x ∷ more) (kept_rows p q xs (λ y more. h y (inr more))))
  ]

  -- what a DELETE leaves: the rows of the items that its query did not find
  pub left_rows : (p : X → Bool) (xs : List X) (found : List Row) → Rises xs → IsPermutation (map shown_id (filter p xs)) found
      → without_all (map row xs) (ids_of found) ≡ map row (filter (λ x. not (p x)) xs)
  left_rows p xs found up same =
      dropped (ids_of found) (map row xs) ∙ kept_rows p _ xs (λ x there. ap not (any_ids (row x) found ∙ any_moved (hits x) (map shown_id (filter p xs)) found same ∙ taken p xs x up there))

  pub rises_kept : (p : X → Bool) (xs : List X) → Rises xs → Rises (filter p xs)
  rises_kept p [] h = tt
  rises_kept p (x ∷ xs) h = elim (cases_Bool (p x)) [
    | inl passes ↦ rw passes (all_from (λ y. id x <ℤ id y) (filter p xs) (λ y there. all_has (λ z. id x <ℤ id z) xs y h.0 (has_filtered p xs y there).0), rises_kept p xs h.1)
    | inr fails ↦ rw fails (rises_kept p xs h.1)
  ]

  pub rises_pushed : (xs : List X) (x : X) → Rises xs → AllByRecursion (λ y. id y <ℤ id x) xs → Rises (xs ++ x ∷ [])
  rises_pushed [] x up low = (tt, tt)
  rises_pushed (y ∷ xs) x up low = (all_pushed xs up.0, rises_pushed xs x up.1 low.1)
    where
      all_pushed : (zs : List X) → AllByRecursion (λ z. id y <ℤ id z) zs → AllByRecursion (λ z. id y <ℤ id z) (zs ++ x ∷ [])
      all_pushed [] h = (low.0, tt)
      all_pushed (z ∷ zs) h = (h.0, all_pushed zs h.1)
