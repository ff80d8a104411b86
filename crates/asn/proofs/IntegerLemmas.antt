-- The value of a shortest content, and the order of octets.
use Rattle.std.proofs.Common.{◌≡◌, ◌≤◌, ◌<◌, ◌+◌, ◌*◌, ◌/◌, ◌%◌, ◌^◌, ℕ, zero, suc, pos, ◌-ℤ◌, List, [], ◌∷◌, ◌++◌, length, slice_index, take, drop, arith, refl, ap, sym, subst, ◌∙◌, ◌⊎◌, inl, inr, nat_eq, lit<, append-nil, length-drop}
use Rattle.std.proofs.lemmas.Int.{ints}
use Rattle.std.proofs.lemmas.Nat.{mul-le}
use Rattle.std.proofs.lemmas.Bool.{cases_lt, cases_order}
use Rattle.std.proofs.lemmas.Bool.Decides.{same_from_decides, Decides-eqb, Decides-like}
use Rattle.std.proofs.Math.ListN.{drop_of_length-le}
use Rattle.std.proofs.Math.Nat.{pow-le-pow_right}
use Rattle.std.specs.Ordering.{nat_cmp, MatchOrdering, ordering_then}
use Rattle.std.specs.declared.cmp.Ordering.{Ordering}
use Rattle.std.specs.declared.cmp.Ordering.TheVariants.{Less, Equal, Greater}
use Rattle.std.specs.Cmp.{nat_cmp_is}
use Rattle.std.specs.Cmp.Lexicographic.{slice_cmp, pointwise, bytes_decides}
use Rattle.der.specs.Contents.{IsInteger}
use Rattle.der.specs.Laws.{AreOctets}
use Rattle.asn.specs.Integer.{IsMagnitude, binary_value, integer_value}
use Rattle.asn.specs.NumberLaws.{AreTwentyOctets, binary_value_below, number_octets, number_octets-twenty}

sub_zero : (a b : ℕ) → b ≡ 0 → pos a -ℤ pos b ≡ pos a
sub_zero a b none = omega (arith, ints)

sub_greater : (a b n : ℕ) → a < b → pos a -ℤ pos b ≡ pos n → ⊥
sub_greater a b n less same = omega (arith, ints)

-- where bit 8 of the first octet is 0, the value is that of the bits
pub value_of_positive : (first : ℕ) (rest : List ℕ) → first < 128 → integer_value (first ∷ rest) ≡ pos (binary_value (first ∷ rest))
unfolding integer_value binary_value
value_of_positive first rest low =
    let worth : ℕ = 256 ^ length rest in
    let same : first % 128 ≡ first = omega arith in
    let sign : first / 128 ≡ 0 = omega arith in
    let none : 0 * 128 * worth ≡ 0 = omega arith in
    rw (same, sign) (sub_zero (first * worth + binary_value rest) (0 * 128 * worth) none)

-- where it is 1, the number is negative
negative : (first : ℕ) (rest : List ℕ) (number : ℕ) → AreOctets (first ∷ rest) → 128 ≤ first → integer_value (first ∷ rest) ≡ pos number → ⊥
unfolding integer_value
negative first rest number each high value =
    let worth : ℕ = 256 ^ length rest in
    let octet : first < 256 = each 0 in
    let sign : first / 128 ≡ 1 = omega arith in
    let below : binary_value rest < worth = binary_value_below rest (λ k. each (suc k)) in
    let low : first % 128 * worth ≤ 127 * worth = mul-le (first % 128) worth 127 worth (omega arith) (omega arith) in
    let less : first % 128 * worth + binary_value rest < first / 128 * 128 * worth = rw sign (omega arith) in
    sub_greater (first % 128 * worth + binary_value rest) (first / 128 * 128 * worth) number less value

-- a content of a number that is not negative has a first octet, with bit 8 clear
pub first_of_positive : (octets : List ℕ) (number : ℕ) → AreOctets octets → IsInteger octets → integer_value octets ≡ pos number → (0 < length octets) × (slice_index octets 0 < 128)
first_of_positive [] number each is value = absurd is
first_of_positive (first ∷ rest) number each is value = (omega arith, of_sign (cases_lt first 128)) where
  of_sign : (first < 128) ⊎ (128 ≤ first) → first < 128
  of_sign (inl low) = low
  of_sign (inr high) = absurd (negative first rest number each high value)

-- a content that begins with a digit is its own magnitude
pub magnitude_of_positive : (octets : List ℕ) → 0 < slice_index octets 0 → slice_index octets 0 < 128 → IsMagnitude octets octets
magnitude_of_positive [] some low = absurd (omega arith)
magnitude_of_positive (first ∷ []) some low = record { content = tt; value = value_of_positive first [] low; shortest = λ _. some }
magnitude_of_positive (first ∷ second ∷ rest) some low =
    record {
      content = (λ (none, low). omega arith, λ (ones, high). omega arith);
      value = value_of_positive first (second ∷ rest) low;
      shortest = λ _. some;
    }

pub binary_value-zero_first : (first : ℕ) (rest : List ℕ) → first ≡ 0 → binary_value (first ∷ rest) ≡ binary_value rest
unfolding binary_value
binary_value-zero_first first rest none =
    let worth : ℕ = 256 ^ length rest in
    let nothing : 0 * worth + binary_value rest ≡ binary_value rest = omega arith in
    rw none nothing

-- behind an octet of zeros, which keeps bit 8 clear, stands the magnitude
pub magnitude_after_zero : (octets : List ℕ) → 0 < length octets → slice_index octets 0 ≡ 0 → (1 < length octets → 128 ≤ slice_index octets 1) → IsMagnitude octets (drop 1 octets)
magnitude_after_zero [] some none high = absurd (omega arith)
magnitude_after_zero (first ∷ []) some none high =
    record {
      content = tt;
      value = value_of_positive first [] (omega arith) ∙ ap pos (binary_value-zero_first first [] none);
      shortest = λ some. absurd (omega arith);
    }
magnitude_after_zero (first ∷ second ∷ rest) some none high =
    let above : 128 ≤ second = high (omega arith) in
    record {
      content = (λ (none, low). omega arith, λ (ones, high). omega arith);
      value = value_of_positive first (second ∷ rest) (omega arith) ∙ ap pos (binary_value-zero_first first (second ∷ rest) none);
      shortest = λ _. omega arith;
    }

abbrev pub total : List ℕ → ℕ
total [] = 0
total (x ∷ xs) = x + total xs

-- octets of zeros at the front add nothing
pub binary_value-zeros : (count : ℕ) (zeros octets : List ℕ) → total zeros ≡ 0 → binary_value (take count zeros ++ octets) ≡ binary_value octets
unfolding binary_value
binary_value-zeros zero zeros octets none = refl
binary_value-zeros (suc count) [] octets none = refl
binary_value-zeros (suc count) (first ∷ rest) octets none =
    let nothing : first ≡ 0 = omega arith in
    let rest_none : total rest ≡ 0 = omega arith in
    binary_value-zero_first first (take count rest ++ octets) nothing ∙ binary_value-zeros count rest octets rest_none

-- where zeros are written over from a place to the end, only what is written counts
pub binary_value-padded : (count size : ℕ) (zeros written octets : List ℕ) → total zeros ≡ 0 → length zeros ≤ count + size → written ≡ octets → binary_value (take count zeros ++ (written ++ drop size (drop count zeros))) ≡ binary_value octets
binary_value-padded count size zeros written octets none within same =
    let nothing : drop size (drop count zeros) ≡ [] = drop_of_length-le (drop count zeros) (omega (arith, length-drop count zeros)) in
    binary_value-zeros count zeros (written ++ drop size (drop count zeros)) none ∙ ap binary_value (rw (same, nothing) (append-nil octets))

-- more than 20 octets with a digit first are a number from 2^160 on
pub long_magnitude : (octets : List ℕ) → 20 < length octets → 0 < slice_index octets 0 → 2 ^ 160 ≤ binary_value octets
unfolding binary_value
long_magnitude [] long digit = absurd (omega arith)
long_magnitude (first ∷ rest) long digit =
    let worth : ℕ = 256 ^ length rest in
    let longer : 20 ≤ length rest = omega arith in
    let large : 256 ^ 20 ≤ worth = pow-le-pow_right (lit< tt) longer in
    let one : 1 * worth ≤ first * worth = mul-le 1 worth first worth digit (omega arith) in
    omega arith

-- of two numbers one is less, or both are equal
abbrev pub Compares : Ordering → ℕ → ℕ → Type 0
Compares order a b = MatchOrdering order (a < b) (a ≡ b) (b < a)

-- an octet more in front decides, and else the rest
order_step : (x y v w worth : ℕ) (rest : Ordering) → v < worth → w < worth → Compares rest v w → Compares (ordering_then (nat_cmp x y) rest) (x * worth + v) (y * worth + w)
order_step x y v w worth rest below_v below_w compares = by_order (cases_order x y) where
  of : (first : Ordering) → first ≡ nat_cmp x y → Compares (ordering_then first rest) (x * worth + v) (y * worth + w) → Compares (ordering_then (nat_cmp x y) rest) (x * worth + v) (y * worth + w)
  of first is = subst (λ order. Compares (ordering_then order rest) (x * worth + v) (y * worth + w)) is

  by_rest : (order : Ordering) → x ≡ y → Compares order v w → Compares order (x * worth + v) (y * worth + w)
  by_rest Less same less = rw same (omega arith)
  by_rest Equal same equal = rw (same, equal) refl
  by_rest Greater same greater = rw same (omega arith)

  by_order : (x ≡ y) ⊎ ((x < y) ⊎ (y < x)) → Compares (ordering_then (nat_cmp x y) rest) (x * worth + v) (y * worth + w)
  by_order (inl same) = of Equal (nat_cmp_is x y Equal same) (by_rest rest same compares)
  by_order (inr (inl less)) =
      let more : (x + 1) * worth ≤ y * worth = mul-le (x + 1) worth y worth (omega arith) (omega arith) in
      of Less (nat_cmp_is x y Less less) (omega arith)
  by_order (inr (inr greater)) =
      let more : (y + 1) * worth ≤ x * worth = mul-le (y + 1) worth x worth (omega arith) (omega arith) in
      of Greater (nat_cmp_is x y Greater greater) (omega arith)

order_of_octets : (one other : List ℕ) → length one ≡ length other → AreOctets one → AreOctets other → Compares (slice_cmp nat_cmp one other) (binary_value one) (binary_value other)
unfolding binary_value
order_of_octets [] [] same each_one each_other = refl
order_of_octets [] (y ∷ ys) same each_one each_other = absurd (omega arith)
order_of_octets (x ∷ xs) [] same each_one each_other = absurd (omega arith)
order_of_octets (x ∷ xs) (y ∷ ys) same each_one each_other =
    let long : length ys ≡ length xs = omega arith in
    let below_x : binary_value xs < 256 ^ length xs = binary_value_below xs (λ k. each_one (suc k)) in
    let below_y : binary_value ys < 256 ^ length xs = subst (λ n. binary_value ys < 256 ^ n) long (binary_value_below ys (λ k. each_other (suc k))) in
    rw long (order_step x y (binary_value xs) (binary_value ys) (256 ^ length xs) (slice_cmp nat_cmp xs ys) below_x below_y (order_of_octets xs ys (sym long) (λ k. each_one (suc k)) (λ k. each_other (suc k))))

-- octets are ordered as their numbers
pub slice_cmp-binary_value : (one other : List ℕ) → AreTwentyOctets one → AreTwentyOctets other → slice_cmp nat_cmp one other ≡ nat_cmp (binary_value one) (binary_value other)
slice_cmp-binary_value one other is_one is_other =
    nat_cmp_is (binary_value one) (binary_value other) (slice_cmp nat_cmp one other) (order_of_octets one other (is_one.count ∙ sym is_other.count) is_one.each is_other.each)

-- and equal where these are
pub pointwise-binary_value : (one other : List ℕ) → AreTwentyOctets one → AreTwentyOctets other → pointwise nat_eq one other ≡ nat_eq (binary_value one) (binary_value other)
pointwise-binary_value one other is_one is_other =
    let back : binary_value one ≡ binary_value other → one ≡ other = λ same. sym (number_octets-twenty one is_one) ∙ ap (number_octets 20) same ∙ number_octets-twenty other is_other in
    same_from_decides _ _ (Decides-like _ (ap binary_value) back (bytes_decides one other)) (Decides-eqb (binary_value one) (binary_value other))

pub binary_value_of_twenty : (octets : List ℕ) → AreTwentyOctets octets → binary_value octets < 2 ^ 160
binary_value_of_twenty octets are = subst (λ count. binary_value octets < 256 ^ count) are.count (binary_value_below octets are.each)
