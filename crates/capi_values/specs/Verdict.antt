-- The verdict on a path, or why a certificate or a statement is refused, as numbers.
use Rattle.std.specs.Prelude.{◌≡◌, ◌⊎◌, ℕ, List}
use Rattle.path.specs.Query as of_path
use Rattle.path.specs.Reason.{reason_rank}
use Rattle.statements.specs.Statement.{Statement}
use Rattle.relying_agreement.specs.declared.verdict.Verdict.{Verdict}
use Rattle.relying_agreement.specs.declared.verdict.Verdict.TheVariants.{Invalid, Revoked, Unknown, Valid}
use Rattle.relying_questions.specs.Agreement.{AcceptsPrints}
use Rattle.relying_texts.specs.Texts.{IsVerdictByStatements}
use Rattle.capi_values.specs.Refusal.{TellsRefusal, no_refusal}
use Rattle.capi_values.specs.Texts.{IsRead, query_certificates}
use Rattle.capi_values.specs.declared.answer.VerdictAnswer.{VerdictAnswer}
use Rattle.capi_values.specs.declared.refusal.Refusal.{Refusal}
use Rattle.capi_values.specs.declared.texts.QueryOfTexts.{QueryOfTexts}
use Rattle.capi_values.specs.declared.texts.Text.{Text}

-- the number of a verdict, the certificate that decides, and the reason; no verdict has the number 0
abbrev pub verdict_numbers : ℕ → ℕ → ℕ → VerdictAnswer
verdict_numbers verdict certificate reason = record {
  verdict = verdict;
  reason = reason;
  certificate = certificate;
  refusal = no_refusal;
}

abbrev pub TellsVerdict : VerdictAnswer → Verdict → Type 0
TellsVerdict answer Valid = answer ≡ verdict_numbers 1 0 0
TellsVerdict answer (Invalid certificate reason) = answer ≡ verdict_numbers 2 certificate (reason_rank reason)
TellsVerdict answer (Revoked certificate reason) = answer ≡ verdict_numbers 3 certificate reason
TellsVerdict answer (Unknown certificate) = answer ≡ verdict_numbers 4 certificate 0

abbrev pub refusal_answer : Refusal → VerdictAnswer
refusal_answer told = record { verdict = 5; reason = 0; certificate = 0; refusal = told }

-- The verdict on the path by the statements, of who accepts so.
pub record IsVerdictFor (accepts : of_path.Accepts) (query : QueryOfTexts) (statements : List Text) (verdict : Verdict) : Type 0 where
  pub read : of_path.Query
  pub these : List Statement
  pub is_read : IsRead query statements read these
  pub is_verdict : IsVerdictByStatements accepts read these verdict

-- The same of who accepts exactly the signatures that have these fingerprints.
pub record IsVerdictOn (query : QueryOfTexts) (statements : List Text) (prints : List (List ℕ)) (verdict : Verdict) : Type 0 where
  pub accepts : of_path.Accepts
  pub accepts_prints : AcceptsPrints accepts prints
  pub is_verdict : IsVerdictFor accepts query statements verdict

-- the answer tells the verdict, or what is refused
abbrev pub TellsAnswer : VerdictAnswer → QueryOfTexts → List Text → List (List ℕ) → Type 0
TellsAnswer answer query statements prints =
    ((verdict : Verdict) × IsVerdictOn query statements prints verdict × TellsVerdict answer verdict)
    ⊎ ((told : Refusal) × TellsRefusal (query_certificates query) statements told × (answer ≡ refusal_answer told))
