-- What a comparison says of two lists of evidence, and the first certificate on which they differ.
use Rattle.std.specs.Prelude.{◌≡◌, ◌⊎◌, ℕ, ℤ, List, [], ◌∷◌, Option, Some, None}
use Rattle.relying_agreement.specs.declared.verdict.Comparison.{Comparison}
use Rattle.relying_agreement.specs.declared.verdict.Comparison.TheVariants.{Same, Differ}
use Rattle.relying_agreement.specs.Status.{Evidence}
use Rattle.relying_agreement.specs.Verdict.{verdict_by}

-- its number, where not all is the same
abbrev pub IsFirstApart : List Evidence → List Evidence → Option ℕ → Type 0
IsFirstApart [] [] answer = answer ≡ None
IsFirstApart [] (b ∷ others) answer = ⊥
IsFirstApart (a ∷ more) [] answer = ⊥
IsFirstApart (a ∷ more) (b ∷ others) answer =
    ((a ≡ b) × IsFirstApart more others answer) ⊎ ((¬ (a ≡ b)) × (answer ≡ Some a.number))

abbrev pub ComparesEvidence : ℤ → List Evidence → List Evidence → Comparison → Type 0
ComparesEvidence moment one other (Same v) = (verdict_by moment one ≡ v) × (verdict_by moment other ≡ v)
ComparesEvidence moment one other (Differ v w j) =
    (v ≡ verdict_by moment one) × (w ≡ verdict_by moment other) × (¬ (v ≡ w)) × IsFirstApart one other (Some j)
