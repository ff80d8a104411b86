-- A number of 20 octets: what its model asks of them, and the way from the number back to them.
use Rattle.std.specs.Prelude.{◌≡◌, ◌<◌, ◌+◌, ◌*◌, ◌/◌, ◌%◌, ◌^◌, ℕ, zero, suc, List, [], ◌∷◌, length, refl}
use Rattle.std.proofs.Common.{ap, sym, subst, ◌∙◌, lit<}
use Rattle.std.proofs.Math.Nat.{pow-suc}
use Rattle.std.proofs.lemmas.Nat.{mul-add-lt, div-mul-add, mod-mul-add}
use Rattle.der.specs.Laws.{AreOctets}
use Rattle.asn.specs.Integer.{binary_value}

-- 20 octets
pub record AreTwentyOctets (octets : List ℕ) : Type 0 where
  pub count : length octets ≡ 20
  pub each : AreOctets octets

-- a number below 256^count in so many octets, the most significant first
unfoldable pub number_octets : ℕ → ℕ → List ℕ
number_octets zero number = []
number_octets (suc count) number = number / 256 ^ count ∷ number_octets count (number % 256 ^ count)

-- octets spell a number below that power of 256
pub binary_value_below : (octets : List ℕ) → AreOctets octets
    → binary_value octets < 256 ^ length octets
unfolding binary_value
binary_value_below [] each = lit< tt
binary_value_below (octet ∷ rest) each =
    let worth : ℕ = 256 ^ length rest in
    let below = binary_value_below rest (λ k. each (suc k)) in
    subst (λ bound. octet * worth + binary_value rest < bound) (sym (pow-suc 256 (length rest)))
    (mul-add-lt octet worth (binary_value rest) 256 (each 0) below)

-- and that number gives the octets back
pub number_octets-binary_value : (octets : List ℕ) → AreOctets octets
    → number_octets (length octets) (binary_value octets) ≡ octets
unfolding binary_value number_octets
number_octets-binary_value [] each = refl
number_octets-binary_value (octet ∷ rest) each =
    let worth : ℕ = 256 ^ length rest in
    let below = binary_value_below rest (λ k. each (suc k)) in
    let number : ℕ = octet * worth + binary_value rest in
    ap (λ first. first ∷ number_octets (length rest) (number % worth))
    (div-mul-add octet worth (binary_value rest) below)
    ∙ ap (λ low. octet ∷ number_octets (length rest) low)
    (mod-mul-add octet worth (binary_value rest) below)
    ∙ ap (λ octets. octet ∷ octets) (number_octets-binary_value rest (λ k. each (suc k)))

-- as the model of a number asks
pub number_octets-twenty : (octets : List ℕ) → AreTwentyOctets octets
    → number_octets 20 (binary_value octets) ≡ octets
number_octets-twenty octets are =
    subst (λ count. number_octets count (binary_value octets) ≡ octets) are.count
    (number_octets-binary_value octets are.each)
