-- The octets of a mask, one by one.
use Rattle.std.proofs.Common.{◌≡◌, ◌<◌, ◌≤◌, ◌+◌, ◌-◌, ℕ, suc, List, [], ◌∷◌, ◌++◌, min, slice_index, arith, ap, ◌∙◌, append-nil, append_assoc}
use Rattle.hex.specs.Hex.{encode_lower, lower_digits}
use Rattle.cli_printing.specs.GeneralText.{begun_octets, mask_octets}
use Rattle.cli_printing.proofs.Pieces.{encode_with-append, nothing_encoded}

-- one octet more
pub mask_more : (all text : List ℕ) (count counter left next octet : ℕ) → counter < count → next ≡ left - 8 → octet ≡ slice_index begun_octets (min left 8)
    → all ≡ text ++ encode_lower (mask_octets (count - counter) left) → all ≡ (text ++ encode_lower (octet ∷ [])) ++ encode_lower (mask_octets (count - (counter + 1)) next)
mask_more all text count counter left next octet less is begun whole =
    let one : count - counter ≡ suc (count - (counter + 1)) = omega arith in
    whole ∙ ap (λ (k : ℕ). text ++ encode_lower (mask_octets k left)) one
    ∙ rw (is, begun) (ap (λ (xs : List ℕ). text ++ xs) (encode_with-append lower_digits (slice_index begun_octets (min left 8) ∷ []) (mask_octets (count - (counter + 1)) (left - 8))) ∙ simp append_assoc)

-- no octet is left
pub mask_all : (all text : List ℕ) (count counter left : ℕ) → count ≤ counter → all ≡ text ++ encode_lower (mask_octets (count - counter) left) → all ≡ text
mask_all all text count counter left done whole =
    let none : count - counter ≡ 0 = omega arith in
    whole ∙ ap (λ (k : ℕ). text ++ encode_lower (mask_octets k left)) none ∙ ap (λ (xs : List ℕ). text ++ xs) (nothing_encoded lower_digits) ∙ append-nil text
