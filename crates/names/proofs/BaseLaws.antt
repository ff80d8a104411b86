-- The tests of masks and of bases of ranges decide the relations.
use Rattle.std.proofs.Common.{◌≡◌, ◌⊎◌, ◌<◌, ◌≤◌, ◌*◌, ◌+◌, ◌/◌, ◌==◌, ℕ, zero, suc, List, Bool, true, false, Some, None, Ok, Err, length, take, drop, refl, sym, ◌∙◌, ap, inl, inr, subst, arith, add-zero, length-append, length-drop, length-take-le, take-append-drop}
use Rattle.std.specs.List.{find, range_with_len}
use Rattle.std.proofs.lemmas.Bool.{cases_lt, cases_eq, or_cases, ne_eqb, false_from_ne_true, lt-ltb, le-ltb, eq-eqb, eqb-true}
use Rattle.std.proofs.lemmas.List.{take_at, drop_at}
use Rattle.names.specs.declared.ip.IpRange.{IpRange}
use Rattle.names.specs.declared.ip.IpFault.{IpFault}
use Rattle.names.specs.declared.ip.IpFault.TheVariants as F
use Rattle.names.specs.Ip.{bit, IsMaskOf, HasHole, IsIpAddress, IsRangeOf, IsRefusedFor, HasBaseLength}
use Rattle.names.specs.Bases.{AddressRange, address_range, mask_bit, has_mask_bit, is_mask, prefix_of_mask, range_with, range_of_base, is_ip_address, AreAddressesOf, AddressTestIsExact, RangeOfBaseIsExact, RefusedBaseIsExact}
use Rattle.names.proofs.Masks.{no_hole}
use Rattle.names.proofs.Ranges.{all_at, all_from}

-- the first number of a range that passes a test
find_at : (t : ℕ → Bool) (a n k : ℕ) → k < n → t (a + k) ≡ true → ((i : ℕ) → i < k → t (a + i) ≡ false) → find t (range_with_len a n) ≡ Some (a + k)
find_at t a zero k lt h before = absurd (omega arith)
find_at t a (suc n) zero lt h before = let e : t a ≡ true = ap t (omega arith) ∙ h in rw (e, add-zero) refl
find_at t a (suc n) (suc k) lt h before =
    let f : t a ≡ false = ap t (omega arith) ∙ before 0 (omega arith) in
    let s : a + suc k ≡ a + 1 + k = omega arith in
    rw (f, s) (find_at t (a + 1) n k (omega arith) (ap t (omega arith) ∙ h)
    (λ i less. ap t (omega arith) ∙ before (suc i) (omega arith)))

find_no : (t : ℕ → Bool) (a n : ℕ) → ((i : ℕ) → i < n → t (a + i) ≡ false) → find t (range_with_len a n) ≡ None
find_no t a zero h = refl
find_no t a (suc n) h =
    let f : t a ≡ false = ap t (omega arith) ∙ h 0 (omega arith) in
    rw f (find_no t (a + 1) n (λ i less. ap t (omega arith) ∙ h (suc i) (omega arith)))

-- the bits of a mask
one_bit : (prefix index : ℕ) → index < prefix → mask_bit prefix index ≡ 1
one_bit prefix index h = rw (lt-ltb index prefix h) refl

zero_bit : (prefix index : ℕ) → prefix ≤ index → mask_bit prefix index ≡ 0
zero_bit prefix index h = rw (le-ltb index prefix h) refl

mask_bits : (mask : List ℕ) (prefix : ℕ) → IsMaskOf mask prefix → (i : ℕ) → i < 8 * length mask → bit mask i ≡ mask_bit prefix i
mask_bits mask prefix m i lt =
    elim (cases_lt i prefix) [
      | inl less ↦ m.ones i less ∙ sym (one_bit prefix i less)
      | inr more ↦ m.zeros i more lt ∙ sym (zero_bit prefix i more)
    ]

mask_test : (mask : List ℕ) (prefix : ℕ) → IsMaskOf mask prefix → is_mask mask prefix ≡ true
unfolding is_mask
mask_test mask prefix m =
    all_from (has_mask_bit mask prefix) 0 (8 * length mask)
    (λ i lt. ap (has_mask_bit mask prefix) (omega arith) ∙ eq-eqb (bit mask i) (mask_bit prefix i) (mask_bits mask prefix m i lt))

mask_from : (mask : List ℕ) (prefix : ℕ) → is_mask mask prefix ≡ true → (i : ℕ) → i < 8 * length mask → bit mask i ≡ mask_bit prefix i
unfolding is_mask
mask_from mask prefix t i lt =
    eqb-true (bit mask i) (mask_bit prefix i)
    (ap (has_mask_bit mask prefix) (omega arith) ∙ all_at (has_mask_bit mask prefix) 0 (8 * length mask) i t lt)

tested_mask : (mask : List ℕ) (prefix : ℕ) → prefix ≤ 8 * length mask → is_mask mask prefix ≡ true → IsMaskOf mask prefix
tested_mask mask prefix le t = record {
  within = le;
  ones = λ i less. mask_from mask prefix t i (omega arith) ∙ one_bit prefix i less;
  zeros = λ i more lt. mask_from mask prefix t i lt ∙ zero_bit prefix i more;
}

differ : (b : ℕ) → b ≡ 1 → b ≡ 0 → ⊥
differ b p q = omega arith

prefix_found : (mask : List ℕ) (prefix : ℕ) → IsMaskOf mask prefix → prefix_of_mask mask ≡ Some prefix
unfolding prefix_of_mask
prefix_found mask prefix m =
    let w = m.within in
    let e : 0 + prefix ≡ prefix = omega arith in
    find_at (is_mask mask) 0 (8 * length mask + 1) prefix (omega arith) (ap (is_mask mask) e ∙ mask_test mask prefix m)
    (λ i less. ap (is_mask mask) (omega arith) ∙ false_from_ne_true (is_mask mask i)
    (λ t. differ (bit mask i) (m.ones i less) (mask_from mask i t i (omega arith) ∙ zero_bit i i (omega arith))))
    ∙ ap (λ (p : ℕ). Some p) e

prefix_missing : (mask : List ℕ) → HasHole mask → prefix_of_mask mask ≡ None
unfolding prefix_of_mask
prefix_missing mask h =
    find_no (is_mask mask) 0 (8 * length mask + 1)
    (λ i less. ap (is_mask mask) (omega arith) ∙ false_from_ne_true (is_mask mask i) (λ t. no_hole mask i (tested_mask mask i (omega arith) t) h))

-- bases of ranges
by_halves : (base : List ℕ) → HasBaseLength base → range_of_base base ≡ range_with (take (length base / 2) base) (prefix_of_mask (drop (length base / 2) base))
unfolding range_of_base
by_halves base (inl e) = rw e refl
by_halves base (inr e) = rw e refl

halves : (base : List ℕ) (range : AddressRange) (r : AreAddressesOf base range) → length range.address ≡ length base / 2
halves base range r =
    let n : length base ≡ length range.address + length r.mask = ap length r.joined ∙ length-append range.address r.mask in
    let same = r.same_length in
    omega arith

base_length : (base : List ℕ) (range : AddressRange) → AreAddressesOf base range → HasBaseLength base
base_length base range r =
    let n : length base ≡ length range.address + length r.mask = ap length r.joined ∙ length-append range.address r.mask in
    let same = r.same_length in
    elim r.address [ inl e ↦ inl (omega arith) | inr e ↦ inr (omega arith) ]

range_reads : (base : List ℕ) (range : AddressRange) → AreAddressesOf base range → range_of_base base ≡ Ok range
range_reads base range r =
    let k = halves base range r in
    let front : take (length base / 2) base ≡ range.address =
    ap (λ (l : List ℕ). take (length base / 2) l) r.joined ∙ take_at range.address r.mask (length base / 2) k
    in
    let back : drop (length base / 2) base ≡ r.mask =
    ap (λ (l : List ℕ). drop (length base / 2) l) r.joined ∙ drop_at range.address r.mask (length base / 2) k
    in
    by_halves base (base_length base range r)
    ∙ (ap (λ (l : List ℕ). range_with l (prefix_of_mask (drop (length base / 2) base))) front
    ∙ ap (range_with range.address) (ap prefix_of_mask back ∙ prefix_found r.mask range.prefix r.ones_then_zeros))

range_refuses : (base : List ℕ) (fault : IpFault) → IsRefusedFor base fault → range_of_base base ≡ Err fault
unfolding range_of_base
range_refuses base F.Length h = let a = ne_eqb (length base) 8 h.0 in let b = ne_eqb (length base) 32 h.1 in rw (a, b) refl
range_refuses base F.Mask h =
    by_halves base h.0
    ∙ ap (range_with (take (length base / 2) base)) (prefix_missing (drop (length base / 2) base) h.1)

-- for the reader of bases
pub range_read : (base : List ℕ) (range : IpRange) → IsRangeOf base range → range_of_base base ≡ Ok (address_range range)
range_read base range r =
    range_reads base (address_range range)
    (record { address = r.address; mask = r.mask; joined = r.joined; same_length = r.same_length; ones_then_zeros = r.ones_then_zeros })

pub range_refused : (base : List ℕ) (fault : IpFault) → IsRefusedFor base fault → range_of_base base ≡ Err fault
range_refused base fault h = range_refuses base fault h

-- a mask is ones and then zeros, or has a hole
a_bit : (mask : List ℕ) (index : ℕ) → (bit mask index ≡ 0) ⊎ (bit mask index ≡ 1)
a_bit mask index = elim (cases_lt (bit mask index) 1) [ inl less ↦ inl (omega arith) | inr more ↦ inr (omega arith) ]

pub record FirstZero (mask : List ℕ) (count : ℕ) : Type 0 where
  pub index : ℕ
  pub within : index < count
  pub zero : bit mask index ≡ 0
  pub ones : (i : ℕ) → i < index → bit mask i ≡ 1

one_more : (mask : List ℕ) (value count : ℕ) → ((i : ℕ) → i < count → bit mask i ≡ value) → bit mask count ≡ value → (i : ℕ) → i < suc count → bit mask i ≡ value
one_more mask value count all last i lt =
    elim (cases_lt i count) [
      | inl less ↦ all i less
      | inr more ↦ let e : i ≡ count = omega arith in ap (bit mask) e ∙ last
    ]

first_zero : (mask : List ℕ) (count : ℕ) → ((i : ℕ) → i < count → bit mask i ≡ 1) ⊎ FirstZero mask count
first_zero mask zero = inl (λ i lt. absurd (omega arith))
first_zero mask (suc count) =
    elim (first_zero mask count) [
      | inr found ↦ inr (record { index = found.index; within = omega arith; zero = found.zero; ones = found.ones })
      | inl all ↦ elim (a_bit mask count) [
        | inl none ↦ inr (record { index = count; within = omega arith; zero = none; ones = all })
        | inr one ↦ inl (one_more mask 1 count all one)
      ]
    ]

pub record LaterOne (mask : List ℕ) (hole count : ℕ) : Type 0 where
  pub index : ℕ
  pub after : hole < index
  pub within : index < count
  pub one : bit mask index ≡ 1

zeros_more : (mask : List ℕ) (hole count : ℕ) → ((i : ℕ) → hole ≤ i → i < count → bit mask i ≡ 0) → bit mask count ≡ 0 → (i : ℕ) → hole ≤ i → i < suc count → bit mask i ≡ 0
zeros_more mask hole count zeros last i le lt =
    elim (cases_lt i count) [
      | inl less ↦ zeros i le less
      | inr more ↦ let e : i ≡ count = omega arith in ap (bit mask) e ∙ last
    ]

later_one : (mask : List ℕ) (hole : ℕ) → bit mask hole ≡ 0 → (count : ℕ) → ((i : ℕ) → hole ≤ i → i < count → bit mask i ≡ 0) ⊎ LaterOne mask hole count
later_one mask hole none zero = inl (λ i le lt. absurd (omega arith))
later_one mask hole none (suc count) =
    elim (later_one mask hole none count) [
      | inr found ↦ inr (record { index = found.index; after = found.after; within = omega arith; one = found.one })
      | inl zeros ↦ elim (a_bit mask count) [
        | inl last ↦ inl (λ i le lt. zeros_more mask hole count zeros last i le lt)
        | inr one ↦ elim (cases_lt hole count) [
          | inl less ↦ inr (record { index = count; after = less; within = omega arith; one = one })
          | inr more ↦ inl (λ i le lt. let e : i ≡ hole = omega arith in ap (bit mask) e ∙ none)
        ]
      ]
    ]

mask_or_hole : (mask : List ℕ) → ((prefix : ℕ) × IsMaskOf mask prefix) ⊎ HasHole mask
mask_or_hole mask =
    elim (first_zero mask (8 * length mask)) [
      | inl all ↦ inl (8 * length mask, record { within = omega arith; ones = all; zeros = λ i le lt. absurd (omega arith) })
      | inr f ↦ elim (later_one mask f.index f.zero (8 * length mask)) [
        | inl zeros ↦ inl (f.index, record { within = let w = f.within in omega arith; ones = f.ones; zeros = zeros })
        | inr l ↦ inr (record { hole = f.index; later = l.index; after = l.after; within = l.within; zero_bit = f.zero; one_bit = l.one })
      ]
    ]

-- a base says a range, or is refused
Decided : List ℕ → Type 0
Decided base = ((range : AddressRange) × AreAddressesOf base range) ⊎ ((fault : IpFault) × IsRefusedFor base fault)

half_length : (base : List ℕ) → HasBaseLength base → IsIpAddress (take (length base / 2) base)
half_length base (inl e) =
    let n = length-take-le (length base / 2) base (omega arith) in
    inl (omega arith)
half_length base (inr e) =
    let n = length-take-le (length base / 2) base (omega arith) in
    inr (omega arith)

same_halves : (base : List ℕ) → HasBaseLength base → length (drop (length base / 2) base) ≡ length (take (length base / 2) base)
same_halves base (inl e) = omega (arith, length-drop (length base / 2) base, length-take-le (length base / 2) base (omega arith))
same_halves base (inr e) = omega (arith, length-drop (length base / 2) base, length-take-le (length base / 2) base (omega arith))

decided_halves : (base : List ℕ) → HasBaseLength base → Decided base
unfolding Decided
decided_halves base h =
    elim (mask_or_hole (drop (length base / 2) base)) [
      | inl (prefix, m) ↦ inl (
        record { address = take (length base / 2) base; prefix = prefix },
        record {
          address = half_length base h;
          mask = drop (length base / 2) base;
          joined = sym (take-append-drop (length base / 2) base);
          same_length = same_halves base h;
          ones_then_zeros = m;
        },
      )
      | inr hole ↦ inr (F.Mask, (h, hole))
    ]

decided : (base : List ℕ) → Decided base
unfolding Decided
decided base =
    elim (cases_eq (length base) 8) [
      | inl e ↦ decided_halves base (inl e)
      | inr not_8 ↦ elim (cases_eq (length base) 32) [
        | inl e ↦ decided_halves base (inr e)
        | inr not_32 ↦ inr (F.Length, (not_8, not_32))
      ]
    ]

pub range_of_base_is_exact : RangeOfBaseIsExact
unfolding Decided
range_of_base_is_exact base range = (
  λ e. elim (decided base) [
    | inl (other, r) ↦ let same : other ≡ range = let f : Ok other ≡ Ok range = sym (range_reads base other r) ∙ e in cc in subst (AreAddressesOf base) same r
    | inr (fault, r) ↦ let f : Err fault ≡ Ok range = sym (range_refuses base fault r) ∙ e in cc
  ],
  λ r. range_reads base range r,
)

pub refused_base_is_exact : RefusedBaseIsExact
unfolding Decided
refused_base_is_exact base fault = (
  λ e. elim (decided base) [
    | inl (range, r) ↦ let f : Ok range ≡ Err fault = sym (range_reads base range r) ∙ e in cc
    | inr (other, r) ↦ let same : other ≡ fault = let f : Err other ≡ Err fault = sym (range_refuses base other r) ∙ e in cc in subst (IsRefusedFor base) same r
  ],
  λ r. range_refuses base fault r,
)

pub address_test_is_exact : AddressTestIsExact
unfolding is_ip_address
address_test_is_exact octets = (
  λ t. elim (or_cases (length octets == 4) (length octets == 16) t) [
    | inl a ↦ inl (eqb-true (length octets) 4 a)
    | inr b ↦ inr (eqb-true (length octets) 16 b)
  ],
  λ h. elim h [ inl e ↦ rw e refl | inr e ↦ rw e refl ],
)
