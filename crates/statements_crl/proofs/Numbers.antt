-- The contents of an INTEGER from 0 to 2^160 - 1 are known by their first two octets and their number.
use Rattle.std.proofs.Common.{◌≡◌, ◌≢◌, pos, ◌≤◌, ◌<◌, ◌^◌, ◌⊎◌, ℕ, suc, Bool, true, false, not, ◌&&◌, ◌==◌, nat_lt, List, [], ◌∷◌, length, slice_index, IsTrue, Option, Some, None, IfSome, IfNone, arith, refl, sym, ◌∙◌, subst, inl, inr, lit<}
use Rattle.std.specs.Option.{IsSome}
use Rattle.std.proofs.Math.Nat.{pow-le-pow_right}
use Rattle.std.proofs.lemmas.Bool.{eqb-true, eqb-false, cases_lt, lt-ltb, le-ltb, ltb-true, ltb-false}
use Rattle.std.proofs.lemmas.Int.{ints}
use Rattle.asn.specs.DerLaws.{AreOctets}
use Rattle.asn.specs.Integer.{IsNumber20, binary_value, integer_value}
use Rattle.asn.specs.NumberLaws.{binary_value_below}
use Rattle.asn.proofs.Laws.{value_of_positive, binary_value-zero_first, first_of_positive, long_magnitude}
use Rattle.statements_crl.specs.CrlNumber.{is_crl_number}

-- up to 20 octets spell a number below 2^160
short : (octets : List ℕ) → AreOctets octets → length octets ≤ 20 → binary_value octets < 2 ^ 160
short octets each few =
    let below = binary_value_below octets each in
    let worth : 256 ^ length octets ≤ 256 ^ 20 = pow-le-pow_right (lit< tt) few in
    omega arith

both : (a b : Bool) → (a && b) ≡ true → (a ≡ true) × (b ≡ true)
both true true e = (refl, refl)
both true false e = absurd cc
both false b e = absurd cc

negated : (b : Bool) → not b ≡ true → b ≡ false
negated true e = absurd cc
negated false e = refl

same_value : (first : ℕ) (rest : List ℕ) (number : ℕ) → first < 128 → integer_value (first ∷ rest) ≡ pos number → binary_value (first ∷ rest) ≡ number
same_value first rest number low value =
    let same : pos (binary_value (first ∷ rest)) ≡ pos number = sym (value_of_positive first rest low) ∙ value in
    omega (arith, ints)

pub test_finds : (contents : List ℕ) → AreOctets contents → IsTrue (is_crl_number contents) → IsNumber20 contents (binary_value contents)
unfolding is_crl_number
test_finds [] each e = absurd cc
test_finds (first ∷ []) each e =
    let low : first < 128 = ltb-true first 128 e in
    record { content = tt; value = value_of_positive first [] low; bound = short (first ∷ []) each (omega arith) }
test_finds (first ∷ second ∷ octets) each e = by (first == 0) refl where
  by : (b : Bool) → (first == 0) ≡ b → IsNumber20 (first ∷ second ∷ octets) (binary_value (first ∷ second ∷ octets))
  by true zero =
      let e = rw zero at e in
      let none : first ≡ 0 = eqb-true first 0 zero in
      let high = both (not (nat_lt second 128)) (nat_lt (length octets) 20) e in
      let digit : 128 ≤ second = ltb-false second 128 (negated (nat_lt second 128) high.0) in
      let few : length octets < 20 = ltb-true (length octets) 20 high.1 in
      let below = short (second ∷ octets) (λ k. each (suc k)) (omega arith) in
      record {
        content = (λ (is, low). omega arith, λ (ones, of). omega arith);
        value = value_of_positive first (second ∷ octets) (omega arith);
        bound = rw (binary_value-zero_first first (second ∷ octets) none) below;
      }
  by false digit =
      let e = rw digit at e in
      let low = both (nat_lt first 128) (nat_lt (length octets) 19) e in
      let small : first < 128 = ltb-true first 128 low.0 in
      let few : length octets < 19 = ltb-true (length octets) 19 low.1 in
      let some : first ≢ 0 = eqb-false first 0 digit in
      record {
        content = (λ (is, of). omega arith, λ (ones, of). omega arith);
        value = value_of_positive first (second ∷ octets) small;
        bound = short (first ∷ second ∷ octets) each (omega arith);
      }

-- 21 octets and more with a digit first are too large
few : (octets : List ℕ) (number : ℕ) → binary_value octets ≡ number → number < 2 ^ 160 → 0 < slice_index octets 0 → length octets ≤ 20
few octets number same bound digit = by (cases_lt 20 (length octets)) where
  by : (20 < length octets) ⊎ (length octets ≤ 20) → length octets ≤ 20
  by (inl long) = let large = long_magnitude octets long digit in omega arith
  by (inr short) = short

pub test_knows : (contents : List ℕ) (number : ℕ) → AreOctets contents → IsNumber20 contents number → IsTrue (is_crl_number contents)
unfolding is_crl_number
test_knows [] number each is = absurd is.content
test_knows (first ∷ []) number each is = lt-ltb first 128 (first_of_positive (first ∷ []) number each is.content is.value).1
test_knows (first ∷ second ∷ octets) number each is = by (first == 0) refl where
  low : first < 128
  low = (first_of_positive (first ∷ second ∷ octets) number each is.content is.value).1

  value : binary_value (first ∷ second ∷ octets) ≡ number
  value = same_value first (second ∷ octets) number low is.value

  by : (b : Bool) → (first == 0) ≡ b → IsTrue (is_crl_number (first ∷ second ∷ octets))
  by true zero =
      let none : first ≡ 0 = eqb-true first 0 zero in
      let high : 128 ≤ second = elim (cases_lt second 128) [ inl small ↦ absurd (is.content.0 (none, small)) | inr large ↦ large ] in
      let inside = few (second ∷ octets) number (sym (binary_value-zero_first first (second ∷ octets) none) ∙ value) is.bound (omega arith) in
      let short : length octets < 20 = omega arith in
      rw (zero, le-ltb second 128 high, lt-ltb (length octets) 20 short) refl
  by false digit =
      let some : first ≢ 0 = eqb-false first 0 digit in
      let inside = few (first ∷ second ∷ octets) number value is.bound (omega arith) in
      let short : length octets < 19 = omega arith in
      rw (digit, lt-ltb first 128 low, lt-ltb (length octets) 19 short) refl

-- the number is the one that the contents spell in binary
pub is_binary : (contents : List ℕ) (number : ℕ) → AreOctets contents → IsNumber20 contents number → binary_value contents ≡ number
is_binary [] number each is = absurd is.content
is_binary (first ∷ rest) number each is = same_value first rest number (first_of_positive (first ∷ rest) number each is.content is.value).1 is.value

-- the number that is read from such contents
pub is_some : (contents : List ℕ) (found : Option ℕ) → IfNone found ((number : ℕ) → IsNumber20 contents number → ⊥) → IsNumber20 contents (binary_value contents) → IsSome found
is_some contents None none is = absurd (none (binary_value contents) is)
is_some contents (Some number) none is = refl

pub value_is : (contents : List ℕ) (found : Option ℕ) (number : ℕ) → IfSome found (IsNumber20 contents) → found ≡ Some number → AreOctets contents → number ≡ binary_value contents
value_is contents found number some e each = sym (is_binary contents number each (subst (λ found. IfSome found (IsNumber20 contents)) e some))
