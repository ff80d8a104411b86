-- Ranges: what lies in one has a key that begins with its key.
use Rattle.std.proofs.Common.{◌≡◌, ◌⊎◌, ◌+◌, ◌-◌, ◌*◌, ◌/◌, ◌%◌, ◌^◌, ◌<◌, ◌≤◌, ℕ, zero, suc, List, ◌∷◌, Bool, true, false, ◌&&◌, ◌==◌, refl, ap, sym, ◌∙◌, inl, inr, arith, length, map}
use Rattle.std.specs.Prelude.{nat_le, min, slice_index}
use Rattle.std.specs.declared.cmp.Ordering.{Ordering}
use Rattle.std.specs.declared.cmp.Ordering.TheVariants.{Less, Equal, Greater}
use Rattle.std.specs.List.{list_all, range_with_len}
use Rattle.std.specs.Ordering.{nat_cmp, ordering_then}
use Rattle.std.specs.Cmp.Lexicographic.{slice_cmp}
use Rattle.std.proofs.lemmas.Bool.{cases_lt}
use Rattle.std.proofs.lemmas.Bool.Decides.{nat_tests}
use Rattle.names.specs.Ip.{bit, same_bit, agree}
use Rattle.names.specs.Bases.{AddressRange}
use Rattle.names.specs.GeneralCoverage.{is_range_of}
use Rattle.names_order.specs.Order.{begins_with, range_key}
use Rattle.names_order.proofs.KeyLists.{cmp_less, cmp_same, cmp_greater}

and_swap : (a b c : Bool) → (a && (b && c)) ≡ (b && (a && c))
and_swap true true c = refl
and_swap true false c = refl
and_swap false true c = refl
and_swap false false c = refl

bits_begin : (f g : ℕ → ℕ) (i p q : ℕ) → begins_with (map f (range_with_len i p)) (map g (range_with_len i q)) ≡ (nat_le q p && list_all (λ k. g k == f k) (range_with_len i q))
bits_begin f g i p zero = grind (arith, nat_tests)
bits_begin f g i zero (suc q) = grind (arith, nat_tests)
bits_begin f g i (suc p) (suc q) =
    let less : nat_le (suc q) (suc p) ≡ nat_le q p = grind (arith, nat_tests) in
    ap (λ b. (g i == f i) && b) (bits_begin f g (i + 1) p q)
    ∙ (and_swap (g i == f i) (nat_le q p) (list_all (λ k. g k == f k) (range_with_len (i + 1) q))
    ∙ ap (λ b. b && ((g i == f i) && list_all (λ k. g k == f k) (range_with_len (i + 1) q))) (sym less))

length_flipped : (m n : ℕ) → (m == n) ≡ (n == m)
length_flipped m n = grind (arith, nat_tests)

pub ranges_begin : (s t : AddressRange) → is_range_of s t ≡ begins_with (range_key s) (range_key t)
unfolding is_range_of agree
ranges_begin s t =
    ap (λ b. b && (nat_le t.prefix s.prefix && list_all (same_bit t.address s.address) (range_with_len 0 t.prefix))) (length_flipped (length s.address) (length t.address))
    ∙ ap (λ b. (length t.address == length s.address) && b) (sym (bits_begin (bit s.address) (bit t.address) 0 s.prefix t.prefix))

-- the bits from an index on

abbrev bits_from : List ℕ → ℕ → ℕ → List ℕ
bits_from address i prefix = map (bit address) (range_with_len i (prefix - i))

abbrev compared : List ℕ → List ℕ → ℕ → ℕ → ℕ → Ordering
compared one other i p q = slice_cmp nat_cmp (bits_from one i p) (bits_from other i q)

next_bits : (address : List ℕ) (i p : ℕ) → i < p → bits_from address i p ≡ bit address i ∷ bits_from address (i + 1) p
next_bits address i p lt =
    let e : p - i ≡ suc (p - (i + 1)) = omega arith in
    ap (λ n. map (bit address) (range_with_len i n)) e

pub bits_step : (one other : List ℕ) (i p q : ℕ) → i < p → i < q
    → slice_cmp nat_cmp (map (bit one) (range_with_len i (p - i))) (map (bit other) (range_with_len i (q - i)))
    ≡ ordering_then (nat_cmp (bit one i) (bit other i)) (slice_cmp nat_cmp (map (bit one) (range_with_len (i + 1) (p - (i + 1)))) (map (bit other) (range_with_len (i + 1) (q - (i + 1)))))
bits_step one other i p q a b =
    ap (λ (l : List ℕ). slice_cmp nat_cmp l (bits_from other i q)) (next_bits one i p a)
    ∙ ap (λ (l : List ℕ). slice_cmp nat_cmp (bit one i ∷ bits_from one (i + 1) p) l) (next_bits other i q b)

-- where one has no more bits
lengths_compare : (f g : ℕ → ℕ) (i p q : ℕ) → (p ≡ 0) ⊎ (q ≡ 0) → slice_cmp nat_cmp (map f (range_with_len i p)) (map g (range_with_len i q)) ≡ nat_cmp p q
lengths_compare f g i zero zero h = refl
lengths_compare f g i zero (suc q) h = sym (cmp_less 0 (suc q) (omega arith))
lengths_compare f g i (suc p) zero h = sym (cmp_greater (suc p) 0 (omega arith))
lengths_compare f g i (suc p) (suc q) h = elim h [ inl e ↦ absurd (omega arith) | inr e ↦ absurd (omega arith) ]

cmp_less_by : (i p q : ℕ) → i ≤ p → i ≤ q → nat_cmp (p - i) (q - i) ≡ nat_cmp p q
cmp_less_by i p q a b = grind (arith, nat_tests)

pub bits_end : (one other : List ℕ) (i p q : ℕ) → i ≤ p → i ≤ q → (p ≤ i) ⊎ (q ≤ i)
    → slice_cmp nat_cmp (map (bit one) (range_with_len i (p - i))) (map (bit other) (range_with_len i (q - i))) ≡ nat_cmp p q
bits_end one other i p q a b h =
    lengths_compare (bit one) (bit other) i (p - i) (q - i) (elim h [ inl e ↦ inl (omega arith) | inr e ↦ inr (omega arith) ])
    ∙ cmp_less_by i p q a b

-- a step of the comparison, and its end, where the whole is as what is left

pub first_decides : (one other : List ℕ) (i p q : ℕ) (whole o : Ordering)
    → whole ≡ slice_cmp nat_cmp (map (bit one) (range_with_len i (p - i))) (map (bit other) (range_with_len i (q - i))) → i < p → i < q
    → o ≡ nat_cmp (bit one i) (bit other i) → (o ≡ Equal → ⊥) → o ≡ whole
first_decides one other i p q whole o is a b says h = says_first o h says ∙ sym (is ∙ bits_step one other i p q a b) where
  says_first : (o : Ordering) → (o ≡ Equal → ⊥) → o ≡ nat_cmp (bit one i) (bit other i) → o ≡ ordering_then (nat_cmp (bit one i) (bit other i)) (compared one other (i + 1) p q)
  says_first Less h e = ap (λ r. ordering_then r (compared one other (i + 1) p q)) e
  says_first Equal h e = absurd (h refl)
  says_first Greater h e = ap (λ r. ordering_then r (compared one other (i + 1) p q)) e

pub first_equal : (one other : List ℕ) (i p q : ℕ) (whole : Ordering)
    → whole ≡ slice_cmp nat_cmp (map (bit one) (range_with_len i (p - i))) (map (bit other) (range_with_len i (q - i))) → i < p → i < q
    → Equal ≡ nat_cmp (bit one i) (bit other i)
    → whole ≡ slice_cmp nat_cmp (map (bit one) (range_with_len (i + 1) (p - (i + 1)))) (map (bit other) (range_with_len (i + 1) (q - (i + 1))))
first_equal one other i p q whole is a b e = is ∙ (bits_step one other i p q a b ∙ ap (λ r. ordering_then r (compared one other (i + 1) p q)) (sym e))

pub shorter : (i p q count : ℕ) → count ≡ min p q → count ≤ i → (p ≤ i) ⊎ (q ≤ i)
shorter i p q count is h = elim (cases_lt p q) [ inl lt ↦ inl (omega arith) | inr le ↦ inr (omega arith) ]

-- the same octets have the same bits
pub same_octets : (one other : List ℕ) (n : ℕ) → ((k : ℕ) → k < n → slice_index one k ≡ slice_index other k) → (i : ℕ) → i < 8 * n → bit one i ≡ bit other i
same_octets one other n h i lt = ap (λ (octet : ℕ). octet / 2 ^ (7 - i % 8) % 2) (h (i / 8) (omega arith))

-- the first bits, which are the same, are left out
pub same_bits_left_out : (one other : List ℕ) (n p q : ℕ) → n ≤ p → n ≤ q → ((i : ℕ) → i < n → bit one i ≡ bit other i)
    → slice_cmp nat_cmp (map (bit one) (range_with_len 0 p)) (map (bit other) (range_with_len 0 q))
    ≡ slice_cmp nat_cmp (map (bit one) (range_with_len n (p - n))) (map (bit other) (range_with_len n (q - n)))
same_bits_left_out one other zero p q a b h =
    let first : p ≡ p - 0 = omega arith in
    let second : q ≡ q - 0 = omega arith in
    λ i. slice_cmp nat_cmp (map (bit one) (range_with_len 0 (first i))) (map (bit other) (range_with_len 0 (second i)))
same_bits_left_out one other (suc n) p q a b h =
    let next : n + 1 ≡ suc n = omega arith in
    let equal : Equal ≡ nat_cmp (bit one n) (bit other n) = sym (ap (nat_cmp (bit one n)) (sym (h n (omega arith))) ∙ cmp_same (bit one n)) in
    let rest = first_equal one other n p q _ (same_bits_left_out one other n p q (omega arith) (omega arith) (λ i lt. h i (omega arith))) (omega arith) (omega arith) equal in
    rw next at rest
