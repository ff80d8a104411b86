-- The first certificate of which no statement speaks, among those that are left.
use Rattle.std.proofs.Common.{◌≡◌, ℕ, ℤ, true, false, List, ◌∷◌, Option, Some, if◌then◌else◌, sym, ap, ◌∙◌}
use Rattle.relying_agreement.specs.Status.{Evidence, is_covered_by}
use Rattle.relying_agreement.specs.Verdict.{first_uncovered}

module _ (moment : ℤ) (left : List Evidence) (it : Evidence) (rest : List Evidence) (whole : Option ℕ) (left_is : left ≡ it ∷ rest) (leads : first_uncovered moment left ≡ whole) where
  -- one more is covered, so it is one of the others
  pub passed : is_covered_by moment it ≡ true → first_uncovered moment rest ≡ whole
  passed covered =
      ap (λ b. if b then first_uncovered moment rest else Some it.number) (sym covered)
      ∙ ap (first_uncovered moment) (sym left_is)
      ∙ leads

  -- it is this one
  pub found : is_covered_by moment it ≡ false → Some it.number ≡ whole
  found uncovered =
      ap (λ b. if b then first_uncovered moment rest else Some it.number) (sym uncovered)
      ∙ ap (first_uncovered moment) (sym left_is)
      ∙ leads
