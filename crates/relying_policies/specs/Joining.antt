-- What a verdict says of the validation of the path.
use Rattle.path.specs.declared.reason.Outcome.{Outcome}
use Rattle.path.specs.declared.reason.Outcome.TheVariants.{Good, Bad}
use Rattle.relying_agreement.specs.declared.verdict.Verdict.{Verdict}
use Rattle.relying_agreement.specs.declared.verdict.Verdict.TheVariants.{Invalid, Revoked, Unknown, Valid}

abbrev pub outcome_in : Verdict → Outcome
outcome_in (Invalid j reason) = Bad j reason
outcome_in (Revoked j reason) = Good
outcome_in (Unknown j) = Good
outcome_in Valid = Good
