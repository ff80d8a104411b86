-- Entries by their issuers: in another order each issuer has the same, and those of one issuer stand behind one another.
use Rattle.std.proofs.Common.{◌≡◌, ◌≢◌, ◌==◌, ◌<◌, ◌≤◌, ◌+◌, ℕ, suc, Bool, true, false, not, ◌&&◌, List, [], ◌∷◌, ◌++◌, length, get_or, take, drop, map, filter, ltb, leb, refl, sym, ap, ap₂, subst, ◌∙◌, arith, inl, inr}
use Rattle.std.specs.List.{AllWithin}
use Rattle.std.specs.List.Sorted.{IsStableByKey, ties}
use Rattle.std.specs.Ordering.{nat_cmp, is_lt}
use Rattle.std.specs.declared.cmp.Ordering.TheVariants.{Less, Equal, Greater}
use Rattle.std.proofs.Math.Path.{fun_ext}
use Rattle.std.proofs.lemmas.Bool.{cases_Bool, cases_lt}
use Rattle.std.proofs.lemmas.Bool.Decides.{nat_tests}
use borrow.Author.Tests.{ltb-true, ltb-false, leb-true, leb-false}
use Rattle.std.proofs.lemmas.List.{append-nil, get_or-take, get_or-drop, length-take, length-drop, take-append-drop}
use Rattle.std.proofs.lemmas.List.Elements.{filter-append}
use Rattle.store_maps.proofs.HeldLaws.{eq_of, is_eq_of}
use Rattle.statements_facts.specs.Listed.{seen_listed}
use Rattle.store_adoption.specs.Version1.{listed_under}
use Rattle.store_migration.specs.declared.grouped.IssuersEntry.{IssuersEntry}
use Rattle.store_migration.specs.Grouped.{HasSameLists, seen_unscoped_entry}

-- ---- the entries of an issuer

pub under : (all : List IssuersEntry) (id : ℕ) → listed_under (map seen_unscoped_entry all) id ≡ map (λ entry. seen_listed entry.listed) (filter (λ entry. entry.issuer == id) all)
under [] id = refl
under (entry ∷ all) id = elim (cases_Bool (entry.issuer == id)) [
  | inl is ↦ rw is (ap (λ rest. seen_listed entry.listed ∷ rest) (under all id))
  | inr far ↦ rw far (under all id)
]

-- ---- a stable sort leaves them in their order

cmp_less : (m n : ℕ) → m < n → nat_cmp m n ≡ Less
cmp_less m n low = grind (arith, nat_tests)

cmp_same : (m n : ℕ) → m ≡ n → nat_cmp m n ≡ Equal
cmp_same m n same = grind (arith, nat_tests)

cmp_more : (m n : ℕ) → n < m → nat_cmp m n ≡ Greater
cmp_more m n high = grind (arith, nat_tests)

differ : (m n : ℕ) → m ≢ n → (m == n) ≡ false
differ m n far = elim (cases_Bool (m == n)) [
  | inl is ↦ absurd (far (eq_of m n is))
  | inr other ↦ other
]

tied : (m n : ℕ) → (not (is_lt (nat_cmp m n)) && not (is_lt (nat_cmp n m))) ≡ (n == m)
tied m n = elim (cases_lt m n) [
  | inl low ↦ rw (cmp_less m n low, differ n m (λ e. omega (arith, low, e))) refl
  | inr high ↦ elim (cases_lt n m) [
    | inl above ↦ rw (cmp_more m n above, cmp_less n m above, differ n m (λ e. omega (arith, above, e))) refl
    | inr same ↦ let e : n ≡ m = omega (arith, high, same) in rw (cmp_same m n (sym e), cmp_same n m e, is_eq_of n m e) refl
  ]
]

abbrev lesser : IssuersEntry → IssuersEntry → Bool
lesser one other = is_lt (nat_cmp one.issuer other.issuer)

-- those that tie with one of this issuer are the issuer's
at_issuer : (xs ys : List IssuersEntry) → IsStableByKey (λ entry. entry.issuer) nat_cmp xs ys → (id : ℕ) → IssuersEntry → filter (λ (entry : IssuersEntry). entry.issuer == id) ys ≡ filter (λ (entry : IssuersEntry). entry.issuer == id) xs
at_issuer xs ys stable id x =
    let w : IssuersEntry = record x { issuer = id } in
    let test : ties lesser w ≡ (λ entry. entry.issuer == id) = fun_ext (λ y. tied id y.issuer) in
    subst (λ p. filter p ys ≡ filter p xs) test (stable w)

same_run : (xs ys : List IssuersEntry) → IsStableByKey (λ entry. entry.issuer) nat_cmp xs ys → (id : ℕ) → filter (λ (entry : IssuersEntry). entry.issuer == id) ys ≡ filter (λ (entry : IssuersEntry). entry.issuer == id) xs
same_run [] [] stable id = refl
same_run [] (y ∷ ys) stable id = at_issuer [] (y ∷ ys) stable id y
same_run (x ∷ xs) ys stable id = at_issuer (x ∷ xs) ys stable id x

pub same_lists : (xs ys : List IssuersEntry) → IsStableByKey (λ entry. entry.issuer) nat_cmp xs ys → HasSameLists (map seen_unscoped_entry ys) (map seen_unscoped_entry xs)
same_lists xs ys stable id = under ys id ∙ ap (map (λ entry. seen_listed entry.listed)) (same_run xs ys stable id) ∙ sym (under xs id)

-- ---- those of one issuer stand behind one another

module _ {X : Type 0} (p : X → Bool) where
  none_pass : (xs : List X) → ((k : ℕ) (d : X) → k < length xs → p (get_or xs k d) ≡ false) → filter p xs ≡ []
  none_pass [] fails = refl
  none_pass (x ∷ xs) fails = rw (fails 0 x (omega arith)) (none_pass xs (λ k d low. fails (suc k) d (omega (arith, low))))

  all_pass : (xs : List X) → ((k : ℕ) (d : X) → k < length xs → p (get_or xs k d) ≡ true) → filter p xs ≡ xs
  all_pass [] passes = refl
  all_pass (x ∷ xs) passes = rw (passes 0 x (omega arith)) (ap (λ rest. x ∷ rest) (all_pass xs (λ k d low. passes (suc k) d (omega (arith, low)))))

module _ (xs : List IssuersEntry) (start end id : ℕ) (below : AllWithin (λ (entry : IssuersEntry). ltb entry.issuer id ≡ true) xs 0 start) (from : AllWithin (λ (entry : IssuersEntry). ltb entry.issuer id ≡ false) xs start (length xs)) (inside : start ≤ length xs)
    (upto : AllWithin (λ (entry : IssuersEntry). leb entry.issuer id ≡ true) (drop start xs) 0 end) (above : AllWithin (λ (entry : IssuersEntry). leb entry.issuer id ≡ false) (drop start xs) end (length (drop start xs))) where
  abbrev is_own : IssuersEntry → Bool
  is_own entry = entry.issuer == id

  abbrev behind : List IssuersEntry
  behind = drop start xs

  before : filter is_own (take start xs) ≡ []
  before = none_pass is_own (take start xs) (λ k d low.
      let at : k < start = omega (arith, low, length-take start xs) in
      let less : (get_or xs k d).issuer < id = ltb-true _ _ (below k d (omega arith) at) in
      subst (λ entry. is_own entry ≡ false) (sym (get_or-take start xs k d at)) (differ _ id (λ e. omega (arith, less, e))))

  own : filter is_own (take end behind) ≡ take end behind
  own = all_pass is_own (take end behind) (λ k d low.
      let at : k < end = omega (arith, low, length-take end behind) in
      let there : k < length behind = omega (arith, low, length-take end behind) in
      let most : (get_or behind k d).issuer ≤ id = leb-true _ _ (upto k d (omega arith) at) in
      let least : id ≤ (get_or xs (start + k) d).issuer = ltb-false _ _ (from (start + k) d (omega arith) (omega (arith, there, length-drop start xs))) in
      let same : (get_or behind k d).issuer ≡ id = omega (arith, most, least, ap (λ (entry : IssuersEntry). entry.issuer) (get_or-drop start xs k d)) in
      subst (λ entry. is_own entry ≡ true) (sym (get_or-take end behind k d at)) (is_eq_of _ id same))

  after : filter is_own (drop end behind) ≡ []
  after = none_pass is_own (drop end behind) (λ k d low.
      let more : id < (get_or behind (end + k) d).issuer = leb-false _ _ (above (end + k) d (omega arith) (omega (arith, low, length-drop end behind))) in
      subst (λ entry. is_own entry ≡ false) (sym (get_or-drop end behind k d)) (differ _ id (λ e. omega (arith, more, e))))

  rest : filter is_own behind ≡ take end behind
  rest =
      ap (filter is_own) (sym (take-append-drop end behind)) ∙ filter-append is_own (take end behind) (drop end behind) ∙ ap₂ (λ a b. a ++ b) own after ∙ append-nil (take end behind)

  run_is : take end (drop start xs) ≡ filter (λ (entry : IssuersEntry). entry.issuer == id) xs
  run_is = sym (ap (filter is_own) (sym (take-append-drop start xs)) ∙ filter-append is_own (take start xs) behind ∙ ap₂ (λ a b. a ++ b) before rest)

pub run_behind : (xs ys : List IssuersEntry) (start end id : ℕ) → ys ≡ drop start xs → start ≤ length xs
    → AllWithin (λ (entry : IssuersEntry). ltb entry.issuer id ≡ true) xs 0 start × AllWithin (λ (entry : IssuersEntry). ltb entry.issuer id ≡ false) xs start (length xs)
    → AllWithin (λ (entry : IssuersEntry). leb entry.issuer id ≡ true) ys 0 end × AllWithin (λ (entry : IssuersEntry). leb entry.issuer id ≡ false) ys end (length ys)
    → take end ys ≡ filter (λ (entry : IssuersEntry). entry.issuer == id) xs
run_behind xs ys start end id at inside first second =
    subst (λ all. AllWithin (λ (entry : IssuersEntry). leb entry.issuer id ≡ true) all 0 end × AllWithin (λ (entry : IssuersEntry). leb entry.issuer id ≡ false) all end (length all) → take end all ≡ filter (λ (entry : IssuersEntry). entry.issuer == id) xs) (sym at)
    (λ halves. run_is xs start end id first.0 first.1 inside halves.0 halves.1) second
