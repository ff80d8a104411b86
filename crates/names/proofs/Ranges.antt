use Rattle.std.proofs.Common.{◌≡◌, ℕ, ◌<◌, ◌≤◌, ◌+◌, List, length, Bool, true, refl, sym, ◌∙◌, ap, inl, inr, ◌⊎◌, arith, ◌==◌, zero, suc, add-zero, IsTrue}
use Rattle.std.specs.Prelude.{nat_le, ◌↔◌}
use Rattle.std.specs.List.{list_all, range_with_len}
use Rattle.std.proofs.lemmas.Bool.{and_parts, and_from, eqb-true, eq-eqb, leb-true, le-leb, cases_lt}
use Rattle.names.specs.declared.ip.IpRange.{IpRange}
use Rattle.names.specs.Ip.{IsInRange, bit, same_bit, agree, is_in_address_range, is_range_inside}
use Rattle.names.specs.Bases.{AddressRange, address_range}
use Rattle.names.specs.GeneralCoverage.{is_address_of, is_range_of}
use Rattle.names.specs.Laws.{RangeTestIsExact, RangeInsideIsSound, SharedRangesAreNested}

pub all_at : (p : ℕ → Bool) (a n i : ℕ) → list_all p (range_with_len a n) ≡ true → i < n → p (a + i) ≡ true
all_at p a zero i h lt = absurd (omega arith)
all_at p a (suc n) zero h lt = rw add-zero ((and_parts (p a) _ h).0)
all_at p a (suc n) (suc i) h lt =
    let e : a + suc i ≡ a + 1 + i = omega arith in
    rw e (all_at p (a + 1) n i (and_parts (p a) _ h).1 (omega arith))

pub all_from : (p : ℕ → Bool) (a n : ℕ) → ((i : ℕ) → i < n → p (a + i) ≡ true) → list_all p (range_with_len a n) ≡ true
all_from p a zero h = refl
all_from p a (suc n) h =
    and_from (p a) (list_all p (range_with_len (a + 1) n))
    (ap p (omega arith) ∙ h 0 (omega arith))
    (all_from p (a + 1) n (λ i lt. let e : a + 1 + i ≡ a + suc i = omega arith in ap p e ∙ h (suc i) (omega arith)))

-- the first bits are the same
unfoldable pub Same : ℕ → List ℕ → List ℕ → Type 0
Same count left right = (i : ℕ) → i < count → bit left i ≡ bit right i

pub same_of : (count : ℕ) (left right : List ℕ) → agree count left right ≡ true → Same count left right
unfolding agree Same
same_of count left right h i lt = eqb-true (bit left i) (bit right i) (ap (same_bit left right) (omega arith) ∙ all_at (same_bit left right) 0 count i h lt)

pub agree_of : (count : ℕ) (left right : List ℕ) → Same count left right → agree count left right ≡ true
unfolding agree Same
agree_of count left right h =
    all_from (same_bit left right) 0 count (λ i lt. ap (same_bit left right) (omega arith) ∙ eq-eqb (bit left i) (bit right i) (h i lt))

-- through a third, up to the shorter of both
through : (m n : ℕ) (a b x : List ℕ) → m ≤ n → Same m a b → Same n b x → Same m a x
unfolding Same
through m n a b x le p q i lt = p i lt ∙ q i (omega arith)

shared : (m n : ℕ) (a b x : List ℕ) → m ≤ n → Same m a x → Same n b x → Same m a b
unfolding Same
shared m n a b x le p q i lt = p i lt ∙ sym (q i (omega arith))

-- both laws, of what bases say
pub addresses_inside : (x : List ℕ) (s t : AddressRange) → IsTrue (is_range_of s t) → IsTrue (is_address_of x s) → IsTrue (is_address_of x t)
unfolding is_address_of is_range_of
addresses_inside x s t h k =
    let a = and_parts (length s.address == length t.address) _ h in
    let b = and_parts (nat_le t.prefix s.prefix) _ a.1 in
    let c = and_parts (length x == length s.address) _ k in
    and_from (length x == length t.address) _
    (eq-eqb _ _ (eqb-true (length x) (length s.address) c.0 ∙ eqb-true (length s.address) (length t.address) a.0))
    (agree_of t.prefix t.address x
    (through t.prefix s.prefix t.address s.address x (leb-true t.prefix s.prefix b.0)
    (same_of t.prefix t.address s.address b.1) (same_of s.prefix s.address x c.1)))

nested_by : (x : List ℕ) (s t : AddressRange) → is_address_of x s ≡ true → is_address_of x t ≡ true → t.prefix ≤ s.prefix → is_range_of s t ≡ true
unfolding is_address_of is_range_of
nested_by x s t h k le =
    let a = and_parts (length x == length s.address) _ h in
    let b = and_parts (length x == length t.address) _ k in
    and_from (length s.address == length t.address) _
    (eq-eqb _ _ (sym (eqb-true (length x) (length s.address) a.0) ∙ eqb-true (length x) (length t.address) b.0))
    (and_from (nat_le t.prefix s.prefix) _ (le-leb t.prefix s.prefix le)
    (agree_of t.prefix t.address s.address
    (shared t.prefix s.prefix t.address s.address x le (same_of t.prefix t.address x b.1) (same_of s.prefix s.address x a.1))))

pub addresses_nested : (x : List ℕ) (s t : AddressRange) → IsTrue (is_address_of x s) → IsTrue (is_address_of x t) → IsTrue (is_range_of s t) ⊎ IsTrue (is_range_of t s)
addresses_nested x s t h k =
    elim (cases_lt s.prefix t.prefix) [
      | inl lt ↦ inr (nested_by x t s k h (omega arith))
      | inr le ↦ inl (nested_by x s t h k le)
    ]

pub range_inside_is_sound : RangeInsideIsSound
unfolding is_in_address_range is_range_inside is_address_of is_range_of
range_inside_is_sound x s t h k = addresses_inside x (address_range s) (address_range t) h k

pub shared_ranges_are_nested : SharedRangesAreNested
unfolding is_in_address_range is_range_inside is_address_of is_range_of
shared_ranges_are_nested x s t h k = addresses_nested x (address_range s) (address_range t) h k

pub range_test_is_exact : RangeTestIsExact
unfolding is_in_address_range Same
range_test_is_exact x s = (
  λ t.
      let both = and_parts (length x == length s.address.now) _ t in
      record {
        same_length = eqb-true (length x) (length s.address.now) both.0;
        agree = same_of s.prefix s.address.now x both.1;
      },
  λ h. and_from (length x == length s.address.now) _ (eq-eqb (length x) (length s.address.now) h.same_length) (agree_of s.prefix s.address.now x h.agree),
)

-- at addresses of one length the comparison of bits decides the relation
pub decided : (x : List ℕ) (s : IpRange) (b : Bool) → length x ≡ length s.address.now → b ≡ agree s.prefix s.address.now x → (IsTrue b ↔ IsInRange x s)
unfolding Same
decided x s b n e = (
  λ t. record { same_length = n; agree = same_of s.prefix s.address.now x (sym e ∙ t) },
  λ h. e ∙ agree_of s.prefix s.address.now x h.agree,
)
