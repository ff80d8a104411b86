-- The octets of subidentifiers.
use Rattle.std.proofs.Common.{◌≡◌, ◌<◌, ◌+◌, ◌/◌, ◌%◌, ◌∙◌, ℕ, List, [], ◌∷◌, ◌++◌, map, sym, ap, arith, append_assoc}
use Rattle.std.specs.Int.Digits.{digits_of}
use Rattle.std.proofs.lemmas.Int.Digits.{digits_of_step}
use Rattle.std.proofs.lemmas.List.{map-append}
use Rattle.cli_operands.specs.Purpose.{leading_octets}

-- one octet more
pub leading_more : (number : ℕ) → 0 < number → leading_octets number ≡ leading_octets (number / 128) ++ (128 + number % 128) ∷ []
leading_more number some =
    ap (map (λ (digit : ℕ). 128 + digit)) (digits_of_step 128 number (omega arith) some)
    ∙ map-append (λ (digit : ℕ). 128 + digit) (digits_of 128 (number / 128)) (number % 128 ∷ [])

-- as they are pushed
pub leading_pushed : (number : ℕ) (old between new : List ℕ) (octet : ℕ) → 0 < number → octet ≡ 128 + number % 128
    → between ≡ old ++ leading_octets (number / 128) → new ≡ between ++ octet ∷ [] → new ≡ old ++ leading_octets number
leading_pushed number old between new octet some is front back =
    back ∙ ap (λ (xs : List ℕ). xs ++ octet ∷ []) front
    ∙ ap (λ (o : ℕ). (old ++ leading_octets (number / 128)) ++ o ∷ []) is
    ∙ append_assoc old (leading_octets (number / 128)) _
    ∙ ap (λ (xs : List ℕ). old ++ xs) (sym (leading_more number some))
