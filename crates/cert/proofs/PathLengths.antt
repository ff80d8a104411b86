-- The number of an INTEGER whose first bit is clear is the one that its octets spell.
use Rattle.std.proofs.Common.{◌≡◌, ◌<◌, ◌≤◌, ◌+◌, ◌*◌, ◌/◌, ◌%◌, ◌^◌, ℕ, zero, suc, pos, ◌-ℤ◌, Bool, true, false, List, [], ◌∷◌, ◌++◌, length, take, drop, if◌then◌else◌, arith, refl, inl, inr}
use Rattle.std.proofs.lemmas.Int.{ints}
use Rattle.std.proofs.lemmas.Nat.{mul-le}
use Rattle.std.proofs.lemmas.Bool.{cases_lt, leb-false, lt-leb}
use Rattle.asn.specs.DerLaws.{AreOctets}
use Rattle.asn.specs.Integer.{binary_value, integer_value}
use Rattle.asn.specs.NumberLaws.{binary_value_below}
use Rattle.asn.specs.Part.{contents}
use Rattle.asn.specs.Place.{Place, body, body_place, ends, front, behind, parts, values}
use Rattle.asn.specs.Members.{members, members_at}
use Rattle.cert.specs.BasicConstraints.{is_negative}

sub_zero : (a b : ℕ) → b ≡ 0 → pos a -ℤ pos b ≡ pos a
sub_zero a b none = omega (arith, ints)

sub_greater : (a b n : ℕ) → a < b → pos a -ℤ pos b ≡ pos n → ⊥
sub_greater a b n less same = omega (arith, ints)

pub value_of_clear : (octets : List ℕ) → is_negative octets ≡ false → integer_value octets ≡ pos (binary_value octets)
unfolding integer_value binary_value
value_of_clear [] clear = refl
value_of_clear (first ∷ rest) clear =
    let low : first < 128 = leb-false 128 first clear in
    let worth : ℕ = 256 ^ length rest in
    let same : first % 128 ≡ first = omega arith in
    let sign : first / 128 ≡ 0 = omega arith in
    let none : 0 * 128 * worth ≡ 0 = omega arith in
    rw (same, sign) (sub_zero (first * worth + binary_value rest) (0 * 128 * worth) none)

set_is_negative : (first : ℕ) (rest : List ℕ) (number : ℕ) → AreOctets (first ∷ rest) → 128 ≤ first → integer_value (first ∷ rest) ≡ pos number → ⊥
unfolding integer_value
set_is_negative first rest number octets high value =
    let worth : ℕ = 256 ^ length rest in
    let octet : first < 256 = octets 0 in
    let sign : first / 128 ≡ 1 = omega arith in
    let below : binary_value rest < worth = binary_value_below rest (λ k. octets (suc k)) in
    let low : first % 128 * worth ≤ 127 * worth = mul-le (first % 128) worth 127 worth (omega arith) (omega arith) in
    let less : first % 128 * worth + binary_value rest < first / 128 * 128 * worth = rw sign (omega arith) in
    sub_greater (first % 128 * worth + binary_value rest) (first / 128 * 128 * worth) number less value

pub clear_of_value : (octets : List ℕ) (number : ℕ) → AreOctets octets → integer_value octets ≡ pos number → is_negative octets ≡ false
clear_of_value [] number each value = refl
clear_of_value (first ∷ rest) number each value =
    elim (cases_lt first 128) [
      | inl low ↦ lt-leb 128 first low
      | inr high ↦ absurd (set_is_negative first rest number each high value)
    ]

-- the values in octets are octets
octets_take : (n : ℕ) (text : List ℕ) → AreOctets text → AreOctets (take n text)
octets_take zero text each k = omega arith
octets_take (suc n) [] each k = each k
octets_take (suc n) (octet ∷ text) each zero = each 0
octets_take (suc n) (octet ∷ text) each (suc k) = octets_take n text (λ i. each (suc i)) k

octets_drop : (n : ℕ) (text : List ℕ) → AreOctets text → AreOctets (drop n text)
octets_drop zero text each = each
octets_drop (suc n) [] each = each
octets_drop (suc n) (octet ∷ text) each = octets_drop n text (λ i. each (suc i))

abbrev pub AllOctets : List Place → Type 0
AllOctets [] = Unit {0}
AllOctets (place ∷ places) = AreOctets place.octets × AllOctets places

either_octets : (b : Bool) (places others : List Place) → AllOctets places → AllOctets others → AllOctets (if b then places else others)
either_octets true places others first second = first
either_octets false places others first second = second

parts_octets : (most : ℕ) (text : Place) → AreOctets text.octets → AllOctets (parts most text)
unfolding front behind
parts_octets zero text each = tt
parts_octets (suc most) text each = either_octets (ends text) [] (front text ∷ parts most (behind text)) tt (octets_take _ text.octets each, parts_octets most (behind text) (octets_drop _ text.octets each))

pub contents_octets : (place : Place) → AreOctets place.octets → AreOctets (body place)
unfolding contents
contents_octets place each = octets_take _ _ (octets_drop _ place.octets each)

pub members_octets : (octet_string : Place) → AreOctets (body octet_string) → AllOctets (members (body_place octet_string)).values
unfolding contents body_place members_at values
members_octets octet_string each = parts_octets _ (body_place (body_place octet_string)) (octets_take _ _ (octets_drop _ (body_place octet_string).octets each))

pub last_octets : (places others : List Place) → AllOctets (places ++ others) → AllOctets others
last_octets [] others each = each
last_octets (place ∷ places) others each = last_octets places others each.1
