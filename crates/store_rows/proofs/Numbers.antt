-- A number, and its twenty octets.
use Rattle.std.proofs.Common.{◌≡◌, ℕ, zero, suc, ◌+◌, ◌*◌, ◌/◌, ◌%◌, ◌^◌, ◌<◌, ◌≤◌, List, length, refl, sym, ap, ◌∙◌, lit<, arith}
use Rattle.std.proofs.Math.Nat.{div-add-mod, mod-lt, mul_comm, one-le-pow}
use Rattle.asn.specs.DerLaws.{AreOctets}
use Rattle.asn.specs.Integer.{binary_value}
use Rattle.asn.specs.NumberLaws.{number_octets, number_octets-twenty}

pub length_octets : (count number : ℕ) → length (number_octets count number) ≡ count
unfolding number_octets
length_octets zero number = refl
length_octets (suc count) number = ap suc (length_octets count (number % 256 ^ count))

-- the octets of a number spell it
pub value_back : (count number : ℕ) → number < 256 ^ count → binary_value (number_octets count number) ≡ number
unfolding number_octets binary_value
value_back zero number low = (let below : number < 1 = low in omega (arith, below))
value_back (suc count) number low =
    let worth : ℕ = 256 ^ count in
    let some : 0 < worth = (let one : 1 ≤ worth = one-le-pow count 256 (lit< tt) in omega (arith, one)) in
    ap (λ size. number / worth * 256 ^ size + binary_value (number_octets count (number % worth))) (length_octets count (number % worth))
    ∙ ap (λ rest. number / worth * worth + rest) (value_back count (number % worth) (mod-lt number some))
    ∙ ap (λ product. product + number % worth) (mul_comm (number / worth) worth)
    ∙ div-add-mod number worth

-- so two numbers with the same octets are one
pub one_number : (a b : ℕ) → a < 2 ^ 160 → b < 2 ^ 160 → number_octets 20 a ≡ number_octets 20 b → a ≡ b
one_number a b low_a low_b same = sym (value_back 20 a low_a) ∙ ap binary_value same ∙ value_back 20 b low_b

pub octets_of_value : (octets : List ℕ) → length octets ≡ 20 → AreOctets octets → octets ≡ number_octets 20 (binary_value octets)
octets_of_value octets count each = sym (number_octets-twenty octets (record { count = count; each = each }))
