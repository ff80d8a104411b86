-- The contents of an INTEGER of 0 or more: by a check of their first octets, and by the number.
use Rattle.std.proofs.Common.{◌≡◌, ◌<◌, ◌≤◌, ◌+◌, ◌*◌, ◌/◌, ◌%◌, ◌^◌, ℕ, suc, pos, ◌-ℤ◌, min, ◌==◌, ◌&&◌, Bool, true, false, not, nat_lt, nat_le, List, [], ◌∷◌, length, arith, refl, sym, ap, ◌∙◌, inl, inr}
use Rattle.std.proofs.lemmas.Int.{ints}
use Rattle.std.proofs.lemmas.Nat.{mul-le}
use Rattle.std.proofs.lemmas.Bool.{cases_lt, leb-false, lt-leb}
use Rattle.asn.specs.Contents.{IsInteger}
use Rattle.asn.specs.DerLaws.{AreOctets}
use Rattle.asn.specs.Integer.{binary_value, integer_value}
use Rattle.asn.specs.NumberLaws.{binary_value_below}
use Rattle.asn.proofs.Laws.{value_of_positive}
use Rattle.cert.specs.BasicConstraints.{is_negative, saturated}
use Rattle.cert_policies.specs.Number.{is_shortest}

pub value_of_clear : (octets : List ℕ) → is_negative octets ≡ false → integer_value octets ≡ pos (binary_value octets)
unfolding integer_value binary_value
value_of_clear [] clear = refl
value_of_clear (first ∷ rest) clear = value_of_positive first rest (leb-false 128 first clear)

sub_greater : (a b n : ℕ) → a < b → pos a -ℤ pos b ≡ pos n → ⊥
sub_greater a b n less same = omega (arith, ints)

set_is_negative : (first : ℕ) (rest : List ℕ) (number : ℕ) → AreOctets (first ∷ rest) → 128 ≤ first → integer_value (first ∷ rest) ≡ pos number → ⊥
unfolding integer_value
set_is_negative first rest number octets high value =
    let worth : ℕ = 256 ^ length rest in
    let octet : first < 256 = octets 0 in
    let sign : first / 128 ≡ 1 = omega arith in
    let below : binary_value rest < worth = binary_value_below rest (λ k. octets (suc k)) in
    let low : first % 128 * worth ≤ 127 * worth = mul-le (first % 128) worth 127 worth (omega arith) (omega arith) in
    let less : first % 128 * worth + binary_value rest < first / 128 * 128 * worth = rw sign (omega arith) in
    sub_greater (first % 128 * worth + binary_value rest) (first / 128 * 128 * worth) number less value

pub clear_of_value : (octets : List ℕ) (number : ℕ) → AreOctets octets → integer_value octets ≡ pos number → is_negative octets ≡ false
clear_of_value [] number each value = refl
clear_of_value (first ∷ rest) number each value =
    elim (cases_lt first 128) [
      | inl low ↦ lt-leb 128 first low
      | inr high ↦ absurd (set_is_negative first rest number each high value)
    ]

pub saturated_is : (octets : List ℕ) → saturated octets ≡ min (binary_value octets) 4294967295
unfolding saturated
saturated_is octets = refl

pub saturated_again : (octets : List ℕ) (number : ℕ) → is_negative octets ≡ false → integer_value octets ≡ pos number → saturated octets ≡ min number 4294967295
saturated_again octets number clear value =
    let same : pos (binary_value octets) ≡ pos number = sym (value_of_clear octets clear) ∙ value in
    let same : binary_value octets ≡ number = cc in
    saturated_is octets ∙ ap (λ (n : ℕ). min n 4294967295) same

-- the shortest contents
shortest_of : (first second : ℕ) (zeros low ones high : Bool) → (first == 0) ≡ zeros → nat_lt second 128 ≡ low → (first == 255) ≡ ones → nat_le 128 second ≡ high
    → (not (zeros && low) && not (ones && high)) ≡ true → ((first ≡ 0) × (second < 128) → ⊥) × ((first ≡ 255) × (128 ≤ second) → ⊥)
shortest_of first second zeros low ones high e f g h is = grind (arith, e, f, g, h, is)

pub integer_of_shortest : (octets : List ℕ) → is_shortest octets ≡ true → IsInteger octets
integer_of_shortest [] is = absurd cc
integer_of_shortest (first ∷ []) is = tt
integer_of_shortest (first ∷ second ∷ octets) is = shortest_of first second (first == 0) (nat_lt second 128) (first == 255) (nat_le 128 second) refl refl refl refl is

pub shortest_of_integer : (octets : List ℕ) → IsInteger octets → is_shortest octets ≡ true
shortest_of_integer [] is = absurd is
shortest_of_integer (first ∷ []) is = refl
shortest_of_integer (first ∷ second ∷ octets) is = grind (arith, is)
