-- Entries that are sorted by serial number, and of those with one number the first left: they ascend, and each number has the reason
-- that it had first.
use Rattle.std.proofs.Common.{◌≡◌, ℕ, Bool, true, false, cond, not, ◌&&◌, List, [], ◌∷◌, Option, Some, map, option_map, refl, sym, ap, ◌∙◌, subst}
use Rattle.std.specs.List.{find, dedup, dedup_from, AllByRecursion}
use Rattle.std.specs.List.Sorted.{IsSortedByKey, IsStableByKey, IsStrictlySortedBy, ties}
use Rattle.std.specs.Ordering.{nat_cmp, is_lt, is_eq, ordering_reverse}
use Rattle.std.specs.declared.cmp.Ordering.{Ordering}
use Rattle.std.specs.declared.cmp.Ordering.TheVariants.{Less, Equal, Greater}
use Rattle.std.specs.Cmp.Lexicographic.{slice_cmp, on_texts, texts_ties}
use Rattle.std.specs.Str.{bytes_eq}
use Rattle.std.proofs.lemmas.Cmp.{nat_list_cmp_total}
use Rattle.std.proofs.lemmas.Map.Text.{is_eq-slice_cmp}
use Rattle.std.proofs.lemmas.List.Kept.{IsStrictlySortedBy-dedup}
use Rattle.std.proofs.lemmas.Slice.Eq.{bytes_eq-Decides}
use Rattle.statements_facts.specs.declared.revoked.Listed.{Listed}
use Rattle.statements_facts.specs.Listed.{seen_listed, IsAscending, first_reason}
use Rattle.statements_facts.proofs.Finding.{found_kept, reason_seen}

abbrev pub serial_of : Listed → List ℕ
serial_of listed = listed.serial.now

abbrev pub same_serial : Listed → Listed → Bool
same_serial one other = bytes_eq (serial_of one) (serial_of other)

abbrev pub has : List ℕ → Listed → Bool
has serial listed = bytes_eq (serial_of listed) serial

-- ---- they ascend

above : (x : Listed) (xs : List Listed) → AllByRecursion (λ y. slice_cmp nat_cmp (serial_of x) (serial_of y) ≡ Less) xs → AllByRecursion (λ y. slice_cmp nat_cmp (serial_of x) y.serial ≡ Less) (map seen_listed xs)
above x [] all = tt
above x (y ∷ ys) all = (all.0, above x ys all.1)

seen_ascend : (xs : List Listed) → IsStrictlySortedBy (λ x y. slice_cmp nat_cmp (serial_of x) (serial_of y)) xs → IsAscending (map seen_listed xs)
unfolding IsStrictlySortedBy
seen_ascend [] is = tt
seen_ascend (x ∷ xs) is = (above x xs is.0, seen_ascend xs is.1)

pub deduped_ascend : (xs : List Listed) → IsSortedByKey serial_of (slice_cmp nat_cmp) xs → IsAscending (map seen_listed (dedup same_serial xs))
deduped_ascend xs sorted =
    seen_ascend (dedup same_serial xs) (IsStrictlySortedBy-dedup (on_texts serial_of) (λ x y. texts_ties (serial_of x) (serial_of y)) xs sorted)

-- ---- the first of each number is left

skip : (b : Bool) (x y : Listed) (rest : Option Listed) → cond b (Some x) rest ≡ cond b (Some x) (cond b (Some y) rest)
skip true x y rest = refl
skip false x y rest = refl

found_from : (serial : List ℕ) (x : Listed) (xs : List Listed) → find (has serial) (dedup_from same_serial x xs) ≡ find (has serial) (x ∷ xs)
found_from serial x [] = refl
found_from serial x (y ∷ ys) = by (same_serial y x) refl (found_from serial x ys) (found_from serial y ys) where
  by :
      (b : Bool) → same_serial y x ≡ b →
      find (has serial) (dedup_from same_serial x ys) ≡ find (has serial) (x ∷ ys) →
      find (has serial) (dedup_from same_serial y ys) ≡ find (has serial) (y ∷ ys) →
      find (has serial) (dedup_from same_serial x (y ∷ ys)) ≡ find (has serial) (x ∷ y ∷ ys)
  by true same left other =
      let alike : has serial x ≡ has serial y = ap (λ octets. bytes_eq octets serial) (sym ((bytes_eq-Decides (serial_of y) (serial_of x)).0 same)) in
      rw same (left ∙ subst (λ b. cond (has serial x) (Some x) (find (has serial) ys) ≡ cond (has serial x) (Some x) (cond b (Some y) (find (has serial) ys))) alike (skip (has serial x) x y (find (has serial) ys)))
  by false differ left other = rw differ (ap (λ rest. cond (has serial x) (Some x) rest) other)

found_deduped : (serial : List ℕ) (xs : List Listed) → find (has serial) (dedup same_serial xs) ≡ find (has serial) xs
found_deduped serial [] = refl
found_deduped serial (x ∷ xs) = found_from serial x xs

-- ---- a stable sort leaves them in their order

neither_less : (one other : Ordering) → one ≡ ordering_reverse other → (not (is_lt one) && not (is_lt other)) ≡ is_eq other
neither_less one Less e = rw e refl
neither_less one Equal e = rw e refl
neither_less one Greater e = rw e refl

abbrev pub less : Listed → Listed → Bool
less one other = is_lt (slice_cmp nat_cmp (serial_of one) (serial_of other))

ties_are_equal : (x y : Listed) → ties less x y ≡ has (serial_of x) y
ties_are_equal x y =
    neither_less (slice_cmp nat_cmp (serial_of x) (serial_of y)) (slice_cmp nat_cmp (serial_of y) (serial_of x)) (nat_list_cmp_total.antisymm (serial_of x) (serial_of y))
    ∙ is_eq-slice_cmp (serial_of y) (serial_of x)

-- ---- what is left says of each number what the entries said first

module _ (xs ys : List Listed) (stable : IsStableByKey serial_of (slice_cmp nat_cmp) xs ys) (serial : List ℕ) where
  all_tie : (x y : Listed) → has serial x ≡ true → has serial y ≡ true → ties less x y ≡ true
  all_tie x y one other = ties_are_equal x y ∙ subst (λ octets. bytes_eq (serial_of y) octets ≡ true) (sym ((bytes_eq-Decides (serial_of x) serial).0 one)) other

  pub reasons_left : first_reason (map seen_listed (dedup same_serial ys)) serial ≡ first_reason (map seen_listed xs) serial
  reasons_left =
      reason_seen seen_listed serial (dedup same_serial ys)
      ∙ ap (option_map (λ x. x.reason)) (found_deduped serial ys ∙ found_kept (has serial) (ties less) all_tie xs ys stable)
      ∙ sym (reason_seen seen_listed serial xs)
