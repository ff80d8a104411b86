-- The number of a key: how many of the keys in order come before it.
use Rattle.std.proofs.Common.{Ordering, Less, Equal, Greater, zero, suc, subst, ◌≡◌, ◌+◌, ◌-◌, ◌≤◌, ◌⊎◌, ℕ, List, [], ◌∷◌, length, Bool, true, false, cond, refl, ap, sym, ◌∙◌, inl, inr, arith, get_or, take, count_by, ◌<◌}
use Rattle.std.specs.Global.{Vec}
use Rattle.std.specs.List.{Contains}
use Rattle.std.specs.List.Sorted.{IsSortedBy, IsPartitionedBy, IsPartitionPoint}
use Rattle.std.specs.Cmp.{IsStrictWeakOrder}
use Rattle.std.specs.Cmp.Lexicographic.{slice_cmp}
use Rattle.std.specs.Ordering.{is_eq, is_gt, is_lt, nat_cmp, ordering_reverse}
use Rattle.std.proofs.lemmas.Bool.{false≢true, cases_Bool}
use Rattle.std.proofs.lemmas.Cmp.{nat_list_cmp_total}
use Rattle.std.proofs.lemmas.List.Sorted.{ranks_by, sorted_far}
use Rattle.std.proofs.lemmas.List.Sums.{count_by_more_yes, count_by_more_no, sum_by-cons, sum_by-le-sum_by}
use Rattle.std.proofs.lemmas.Map.Text.{is_eq-slice_cmp}
use Rattle.std.proofs.lemmas.Slice.Eq.{bytes_eq-Decides}
use Rattle.std.proofs.lemmas.List.{take_all}
use Rattle.path_issuers.specs.Keys.{HasKey, is_less, comes_before, number_of}
use Rattle.path_issuers.specs.Lists.{lists_of}

abbrev pub is_before : List ℕ → Vec ℕ → Bool
is_before key other = is_less other.items key

keys_rank : IsStrictWeakOrder comes_before
keys_rank = ranks_by nat_list_cmp_total (λ (key : Vec ℕ). key.items)

lists_rank : IsStrictWeakOrder is_less
lists_rank = ranks_by nat_list_cmp_total (λ (key : List ℕ). key)

pub before_first : (key : List ℕ) (keys : List (Vec ℕ)) → IsSortedBy comes_before keys → IsPartitionedBy (is_before key) keys
before_first key keys sorted i j d le within less =
    elim (cases_Bool (is_before key (get_or keys i d))) [
      | inl t ↦ t
      | inr f ↦ absurd (false≢true (sym (lists_rank.chain (get_or keys j d).items (get_or keys i d).items key
          (sorted_far comes_before keys_rank keys sorted i j d le within) f) ∙ less))
    ]

-- up to the point all pass, and none behind it
module _ (p : Vec ℕ → Bool) (xs : List (Vec ℕ)) (d : Vec ℕ) (point : ℕ) (bound : point ≤ length xs)
    (at : IsPartitionPoint (λ x. p x ≡ true) (λ x. p x ≡ false) xs point) where
  abbrev IsCounted : ℕ → ℕ → Type 0
  IsCounted n count = count_by p (take n xs) ≡ count

  count_to : (n : ℕ) → n ≤ point → IsCounted n n
  count_to zero h = refl
  count_to (suc n) h =
      let more = count_by_more_yes p xs n d (omega arith) (at.0 n d (omega arith) (omega arith)) in
      subst (λ (m : ℕ). IsCounted m m) (omega arith) (more ∙ ap (λ m. m + 1) (count_to n (omega arith)))

  count_behind : (n : ℕ) → point + n ≤ length xs → IsCounted (point + n) point
  count_behind zero h = subst (λ (m : ℕ). IsCounted m point) (omega arith) (count_to point (omega arith))
  count_behind (suc n) h =
      let more = count_by_more_no p xs (point + n) d (omega arith) (at.1 (point + n) d (omega arith) (omega arith)) in
      subst (λ (m : ℕ). IsCounted m point) (omega arith) (more ∙ count_behind n (omega arith))

  count_all : count_by p xs ≡ point
  count_all =
      ap (λ (ys : List (Vec ℕ)). count_by p ys) (sym (take_all (point + (length xs - point)) xs (omega arith)))
      ∙ count_behind (length xs - point) (omega arith)

pub count_to_point : (p : Vec ℕ → Bool) (xs : List (Vec ℕ)) (point : ℕ) → point ≤ length xs
    → IsPartitionPoint (λ x. p x ≡ true) (λ x. p x ≡ false) xs point → point ≡ count_by p xs
count_to_point p [] point bound at = omega arith
count_to_point p (x ∷ xs) point bound at = sym (count_all p (x ∷ xs) x point bound at)

-- of keys that are there, each has a number of its own

neither : (one other : Ordering) → one ≡ ordering_reverse other → is_lt one ≡ false → is_lt other ≡ false → is_eq one ≡ true
neither Equal other e f g = refl
neither Less other e f g = absurd (false≢true (sym f))
neither Greater Less e f g = absurd (false≢true (sym g))
neither Greater Equal e f g = absurd (false≢true (sym (ap is_gt e)))
neither Greater Greater e f g = absurd (false≢true (sym (ap is_gt e)))

same_if_neither : (a b : List ℕ) → is_less a b ≡ false → is_less b a ≡ false → a ≡ b
same_if_neither a b f g =
    (bytes_eq-Decides a b).0
    (sym (is_eq-slice_cmp a b) ∙ neither (slice_cmp nat_cmp a b) (slice_cmp nat_cmp b a) (nat_list_cmp_total.antisymm a b) f g)

not_before_itself : (a : List ℕ) → is_less a a ≡ false
not_before_itself a =
    elim (cases_Bool (is_less a a)) [ inl t ↦ lists_rank.one_way a a t | inr f ↦ f ]

first_or_later : {X : Type 0} (x z : X) (xs : List X) (k : ℕ) → k < length (x ∷ xs) → get_or (x ∷ xs) k z ≡ z → (x ≡ z) ⊎ Contains xs z
first_or_later x z xs zero within e = inl e
first_or_later x z xs (suc k) within e = inr (k, omega arith, e)

module _ (a b : List ℕ) (less : is_less a b ≡ true) where
  before_both : (k : List ℕ) → is_less k a ≡ true → is_less k b ≡ true
  before_both k h =
      elim (cases_Bool (is_less k b)) [
        | inl t ↦ t
        | inr f ↦ absurd (false≢true (sym (lists_rank.chain k b a f (lists_rank.one_way a b less)) ∙ h))
      ]

  abbrev one_if : Bool → ℕ
  one_if c = cond c 1 0

  abbrev counts : List ℕ → Vec ℕ → ℕ
  counts key other = one_if (is_less other.items key)

  counts_no_more : (other : Vec ℕ) → counts a other ≤ counts b other
  counts_no_more other =
      elim (cases_Bool (is_less other.items a)) [
        | inl t ↦
            let both : counts b other ≡ 1 = ap one_if (before_both other.items t) in
            let one : counts a other ≡ 1 = ap one_if t in
            omega (arith, one, both)
        | inr f ↦ let none : counts a other ≡ 0 = ap one_if f in omega (arith, none)
      ]

  lesser_number : (keys : List (Vec ℕ)) → HasKey keys a → number_of keys a < number_of keys b
  lesser_number [] h = absurd (omega (arith, h.1))
  lesser_number (k ∷ keys) h =
      let one = sum_by-cons (counts a) k keys in
      let other = sum_by-cons (counts b) k keys in
      let rest = sum_by-le-sum_by (counts a) (counts b) keys counts_no_more in
      elim (first_or_later k.items a (lists_of keys) h.0 h.1 h.2) [
        | inl same ↦
            let none : counts a k ≡ 0 = subst (λ (key : List ℕ). one_if (is_less key a) ≡ 0) (sym same) (ap one_if (not_before_itself a)) in
            let full : counts b k ≡ 1 = subst (λ (key : List ℕ). one_if (is_less key b) ≡ 1) (sym same) (ap one_if less) in
            omega (arith, one, other, rest, none, full)
        | inr later ↦ omega (arith, one, other, lesser_number keys later, counts_no_more k)
      ]

pub same_key : (keys : List (Vec ℕ)) (a b : List ℕ) → HasKey keys a → HasKey keys b → number_of keys a ≡ number_of keys b → a ≡ b
same_key keys a b has_a has_b same =
    elim (cases_Bool (is_less a b)) [
      | inl less ↦ absurd (omega (arith, lesser_number a b less keys has_a, same))
      | inr not_less ↦ elim (cases_Bool (is_less b a)) [
        | inl more ↦ absurd (omega (arith, lesser_number b a more keys has_b, same))
        | inr not_more ↦ same_if_neither a b not_less not_more
      ]
    ]
