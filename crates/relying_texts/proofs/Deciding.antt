-- The verdict by what bears on each certificate, found in one pass.
use Rattle.std.proofs.Common.{◌≡◌, ℕ, ℤ, Bool, true, false, List, ◌∷◌, Option, Some, None, if◌then◌else◌, refl, sym, ap, ◌∙◌}
use Rattle.std.specs.Option.{option_or}
use Rattle.relying_agreement.specs.declared.verdict.Verdict.TheVariants.{Revoked}
use Rattle.relying_agreement.specs.Status.{Evidence, deciding_reason, is_covered_by}
use Rattle.relying_agreement.specs.Verdict.{first_revoked, first_uncovered, verdict_from, verdict_by, or_revoked}

-- what is left, behind the first that was not covered, decides as all does
pub record IsSoFar (moment : ℤ) (uncovered : Option ℕ) (left all : List Evidence) : Type 0 where
  pub revoked : first_revoked moment left ≡ first_revoked moment all
  pub covered : option_or uncovered (first_uncovered moment left) ≡ first_uncovered moment all

module _ (moment : ℤ) (uncovered : Option ℕ) (left all : List Evidence) (so_far : IsSoFar moment uncovered left all) where
  pub is_revoked : (it : Evidence) (rest : List Evidence) (number reason : ℕ) → left ≡ it ∷ rest → number ≡ it.number → Some reason ≡ deciding_reason moment it
      → Revoked number reason ≡ verdict_by moment all
  is_revoked it rest number reason left_is number_is why =
      let here : Some (number, reason) ≡ first_revoked moment all =
      ap (λ n. Some (n, reason)) number_is
      ∙ ap (λ r. or_revoked it.number r (first_revoked moment rest)) why
      ∙ ap (first_revoked moment) (sym left_is)
      ∙ so_far.revoked in
      ap (λ r. verdict_from r (first_uncovered moment all)) here

-- one more that is not revoked
shifted : (uncovered : Option ℕ) (covered : Bool) (number : ℕ) (rest : Option ℕ)
    → option_or (option_or uncovered (if covered then None else Some number)) rest ≡ option_or uncovered (if covered then rest else Some number)
shifted (Some earlier) covered number rest = refl
shifted None true number rest = refl
shifted None false number rest = refl

pub goes_on : (moment : ℤ) (uncovered next : Option ℕ) (left all : List Evidence) (it : Evidence) (rest : List Evidence) (number : ℕ) (covered : Bool) → IsSoFar moment uncovered left all
    → left ≡ it ∷ rest → number ≡ it.number → None ≡ deciding_reason moment it → covered ≡ is_covered_by moment it
    → next ≡ option_or uncovered (if covered then None else Some number) → IsSoFar moment next rest all
goes_on moment uncovered next left all it rest number covered so_far left_is number_is why covered_is next_is = record {
  revoked = ap (λ r. or_revoked it.number r (first_revoked moment rest)) why ∙ ap (first_revoked moment) (sym left_is) ∙ so_far.revoked;
  covered =
      ap (λ u. option_or u (first_uncovered moment rest)) next_is
      ∙ shifted uncovered covered number (first_uncovered moment rest)
      ∙ ap (λ b. option_or uncovered (if b then first_uncovered moment rest else Some number)) covered_is
      ∙ ap (λ n. option_or uncovered (if is_covered_by moment it then first_uncovered moment rest else Some n)) number_is
      ∙ ap (λ l. option_or uncovered (first_uncovered moment l)) (sym left_is)
      ∙ so_far.covered;
}
