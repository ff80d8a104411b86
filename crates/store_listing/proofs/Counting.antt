-- Entries counted by the numbers of their lists.
use Rattle.std.proofs.Common.{◌≡◌, ◌≢◌, ℕ, suc, ◌+◌, ◌*◌, ◌<◌, ◌≤◌, true, false, cond, ◌&&◌, ◌==◌, List, [], ◌∷◌, ◌++◌, map, length, refl, sym, ap, subst, ◌∙◌, inl, inr, arith}
use Rattle.std.proofs.lemmas.Bool.{cases_Bool}
use Rattle.std.proofs.lemmas.Bool.Decides.{eqb_tells, nat_tests}
use Rattle.std.proofs.lemmas.List.{map-append}
use Rattle.std.proofs.lemmas.List.Sums.{sum_by-cons, sum_by-append}
use Rattle.std.specs.List.{AllByRecursion}
use Rattle.std.specs.BTreeMap.{BTreeMap}
use Rattle.sqlite.specs.Order.{Row}
use Rattle.sqlite_trees.specs.Tree.{IsAscending}
use Rattle.store_rows.specs.Contents.{EntryRow}
use Rattle.store_rows.specs.Places.{is_under, entries_under, IsInside, ArePlaced}
use Rattle.store_listing.specs.Counts.{list_number, how_many, held_count, AreCounted, HaveRoom}
use Rattle.store_listing.specs.Cells.{list_of}
use Rattle.store_listing.specs.Reads.{number_of_entry}

-- ---- one more

many_cons : (n x : ℕ) (xs : List ℕ) → how_many n (x ∷ xs) ≡ cond (x == n) 1 0 + how_many n xs
many_cons n x xs = sum_by-cons (λ other. cond (other == n) 1 0) x xs

many_own : (n x : ℕ) (xs : List ℕ) → (x == n) ≡ true → how_many n (x ∷ xs) ≡ suc (how_many n xs)
many_own n x xs own = let one : ◌≡◌ {A = ℕ} (cond (x == n) 1 0) 1 = rw own refl in omega (arith, many_cons n x xs, one)

many_other : (n x : ℕ) (xs : List ℕ) → (x == n) ≡ false → how_many n (x ∷ xs) ≡ how_many n xs
many_other n x xs other = let none : ◌≡◌ {A = ℕ} (cond (x == n) 1 0) 0 = rw other refl in omega (arith, many_cons n x xs, none)

many_behind : (n : ℕ) (xs later : List ℕ) → how_many n (xs ++ n ∷ later) ≡ suc (how_many n xs + how_many n later)
many_behind n xs later =
    let own : (n == n) ≡ true = grind (arith, nat_tests) in
    let both : how_many n (xs ++ n ∷ later) ≡ how_many n xs + how_many n (n ∷ later) = sum_by-append (λ other. cond (other == n) 1 0) xs (n ∷ later) in
    omega (arith, both, many_own n n later own)

-- ---- a list has room for as many as there are places

abbrev IsFrom : ℕ → ℕ → List EntryRow → Type 0
IsFrom n low es = AllByRecursion (λ e. number_of_entry e ≡ n → low ≤ e.place) es

behind : (n place : ℕ) (es : List EntryRow) → AllByRecursion (λ e. place < e.place) es → IsFrom n (suc place) es
behind n place [] h = tt
behind n place (e ∷ es) h = (λ own. let here = h.0 in omega arith, behind n place es h.1)

from_base : (n : ℕ) (es : List EntryRow) → AllByRecursion IsInside es → IsFrom n (n * 4294967296) es
from_base n [] inside = tt
from_base n (e ∷ es) inside = (λ own. let i : IsInside e = inside.0 in let low = i.low in omega (arith, own, low), from_base n es inside.1)

few : (n low : ℕ) (es : List EntryRow) → IsAscending (λ one other. one.place < other.place) es → AllByRecursion IsInside es → IsFrom n low es → low ≤ n * 4294967296 + 4294967296
    → how_many n (map number_of_entry es) + low ≤ n * 4294967296 + 4294967296
few n low [] rise inside from fits = omega arith
few n low (e ∷ es) rise inside from fits = elim (eqb_tells (number_of_entry e) n) [
  | inl same ↦ (
      let i : IsInside e = inside.0 in
      let high = i.high in
      let number : list_number e.issuer e.scope ≡ n = same.1 in
      let start = from.0 same.1 in
      let top : e.place < n * 4294967296 + 4294967296 = omega (arith, high, number) in
      let more = few n (suc e.place) es rise.1 inside.1 (behind n e.place es rise.0) (omega (arith, top)) in
      omega (arith, more, start, many_own n (number_of_entry e) (map number_of_entry es) same.0))
  | inr other ↦ (let more = few n low es rise.1 inside.1 from.1 fits in omega (arith, more, many_other n (number_of_entry e) (map number_of_entry es) other.0))
]

pub have_room : (es : List EntryRow) → ArePlaced es → HaveRoom (map number_of_entry es)
have_room es placed n = let all = few n (n * 4294967296) es placed.rise placed.inside (from_base n es placed.inside) (omega arith) in omega (arith, all)

-- ---- and as many as are under its issuer and scope

same_test : (a b i s : ℕ) → b < 3 → s < 3 → (list_number a b == list_number i s) ≡ ((a == i) && (b == s))
same_test a b i s low few = elim (eqb_tells a i) [
  | inl same ↦ elim (eqb_tells b s) [
    | inl also ↦ rw (same.0, also.0) (is_eq_of (list_number a b) (list_number i s) (let x = same.1 in let y = also.1 in omega arith))
    | inr other ↦ rw (same.0, other.0) (is_not_eq_of (list_number a b) (list_number i s) (λ e. other.1 (let x = same.1 in omega (arith, e))))
  ]
  | inr other ↦ rw other.0 (is_not_eq_of (list_number a b) (list_number i s) (λ e. other.1 (omega (arith, e))))
]
  where
    is_eq_of : (m n : ℕ) → m ≡ n → (m == n) ≡ true
    is_eq_of m n e = grind (arith, nat_tests)

    is_not_eq_of : (m n : ℕ) → m ≢ n → (m == n) ≡ false
    is_not_eq_of m n e = grind (arith, nat_tests)

pub counted_under : (i s : ℕ) (es : List EntryRow) → s < 3 → AllByRecursion IsInside es → how_many (list_number i s) (map number_of_entry es) ≡ length (entries_under es i s)
counted_under i s [] low inside = refl
counted_under i s (e ∷ es) low inside =
    let h : IsInside e = inside.0 in
    let more = counted_under i s es low inside.1 in
    let same = same_test e.issuer e.scope i s h.scope low in
    elim (cases_Bool (is_under i s e)) [
      | inl passes ↦ (let one = many_own (list_number i s) (number_of_entry e) (map number_of_entry es) (same ∙ passes) in rw passes (omega (arith, more, one)))
      | inr fails ↦ (let none = many_other (list_number i s) (number_of_entry e) (map number_of_entry es) (same ∙ fails) in rw fails (omega (arith, more, none)))
    ]

-- ---- a list that is full, before one more

pub never_full : (counts : BTreeMap ℕ ℕ) (rows later : List Row) (row : Row) (list : ℕ) → AreCounted counts (map list_of rows) → list ≡ list_of row → HaveRoom (map list_of (rows ++ row ∷ later)) → 4294967296 ≤ held_count counts list → ⊥
never_full counts rows later row list so is room full =
    let all : map list_of (rows ++ row ∷ later) ≡ map list_of rows ++ list ∷ map list_of later = map-append list_of rows (row ∷ later) ∙ ap (λ n. map list_of rows ++ n ∷ map list_of later) (sym is) in
    let most : how_many list (map list_of rows ++ list ∷ map list_of later) ≤ 4294967296 = subst (λ xs. how_many list xs ≤ 4294967296) all (room list) in
    let behind = many_behind list (map list_of rows) (map list_of later) in
    let before = so list in
    omega (arith, most, behind, before, full)
