-- What a verdict says of the validation of its path.
use Rattle.std.proofs.Common.{◌≡◌, ℕ, Option, Some, None, refl, sym, ap, subst, ◌∙◌}
use Rattle.statements_facts.specs.Statement.{Holdings}
use Rattle.path.specs.declared.reason.Outcome.{Outcome}
use Rattle.path.specs.declared.reason.Outcome.TheVariants as path
use Rattle.path.specs.Query.{Query, Accepts}
use Rattle.path.specs.Validity.{IsOutcome}
use Rattle.relying_agreement.specs.declared.verdict.Verdict.{Verdict}
use Rattle.relying_agreement.specs.Verdict.{IsVerdict, evidence_on, verdict_by, verdict_from, verdict_of}
use Rattle.relying_policies.specs.Joining.{outcome_in}

-- what statements say is never that the path is invalid
said_of_good : (revoked : Option (ℕ × ℕ)) (uncovered : Option ℕ) → outcome_in (verdict_from revoked uncovered) ≡ path.Good
said_of_good (Some it) uncovered = refl
said_of_good None (Some j) = refl
said_of_good None None = refl

-- the outcome that a verdict says is that of the path, and where it is good the verdict is what the statements say
pub outcome_said : (accepts : Accepts) (query : Query) (held : Holdings) (verdict : Verdict) → IsVerdict accepts query held verdict
    → IsOutcome accepts query (outcome_in verdict)
outcome_said accepts query held verdict is = said is.outcome is.is_outcome is.verdict_is
  where
    said : (outcome : Outcome) → IsOutcome accepts query outcome → verdict ≡ verdict_of outcome query held → IsOutcome accepts query (outcome_in verdict)
    said path.Good good e = subst (λ o. IsOutcome accepts query o) (sym (ap outcome_in e ∙ said_of_good _ _)) good
    said (path.Bad j reason) bad e = subst (λ o. IsOutcome accepts query o) (sym (ap outcome_in e)) bad

pub verdict_said : (accepts : Accepts) (query : Query) (held : Holdings) (verdict : Verdict) → IsVerdict accepts query held verdict
    → outcome_in verdict ≡ path.Good → verdict ≡ verdict_by query.moment (evidence_on held query)
verdict_said accepts query held verdict is good = said is.outcome is.verdict_is
  where
    said : (outcome : Outcome) → verdict ≡ verdict_of outcome query held → verdict ≡ verdict_by query.moment (evidence_on held query)
    said path.Good e = e
    said (path.Bad j reason) e = absurd (let bad : path.Bad j reason ≡ path.Good = sym (ap outcome_in e) ∙ good in cc)
