-- Ask, judge, validate: a caller asks `x509check_questions`, has each question judged, and hands the fingerprints of the good ones to
-- `x509check_validate`.
use Rattle.std.specs.Prelude.{◌≡◌, ◌⊎◌, ◌≤◌, ◌+◌, ◌↔◌, ◌==◌, if◌then◌else◌, ℕ, List, [], Bool, IsTrue, Contains, length, take, slice_index_or, slice_range}
use Rattle.std.specs.List.{All}
use Rattle.path.specs.Query.{Accepts}
use Rattle.relying_agreement.specs.declared.verdict.Verdict.{Verdict}
use Rattle.capi_values.specs.Questions.{TellsQuestions}
use Rattle.capi_values.specs.Refusal.{no_memory}
use Rattle.capi_values.specs.Texts.{certificate_texts, octets_of_texts, query_certificates}
use Rattle.capi_values.specs.Verdict.{IsVerdictFor, TellsVerdict, refusal_answer}
use Rattle.capi_values.specs.declared.answer.VerdictAnswer.{VerdictAnswer}
use Rattle.capi_values.specs.declared.questions.Asked.{Asked}
use Rattle.capi_values.specs.declared.questions.Place.{Place}
use Rattle.capi_values.specs.declared.questions.SignatureQuestion.{SignatureQuestion}
use Rattle.capi_values.specs.declared.texts.QueryOfTexts.{QueryOfTexts}
use Rattle.capi_values.specs.declared.texts.Text.{Text}

-- the certificates if the number is 1, else the statements
abbrev pub texts_numbered : List (List ℕ) → List (List ℕ) → ℕ → List (List ℕ)
texts_numbered certificates statements number = if number == 1 then certificates else statements

-- the octets at a place of the caller's texts
abbrev pub octets_at : List (List ℕ) → List (List ℕ) → Place → List ℕ
octets_at certificates statements place =
    slice_range (slice_index_or (texts_numbered certificates statements place.text) place.index []) place.offset (place.offset + place.length)

-- how a judge answers a question: by the octets at its four places
abbrev pub judged : Accepts → List (List ℕ) → List (List ℕ) → SignatureQuestion → Bool
judged accepts certificates statements question =
    accepts (octets_at certificates statements question.algorithm) (octets_at certificates statements question.key_info)
    (octets_at certificates statements question.message) (octets_at certificates statements question.signature)

-- There was room for all questions, and of these the judge answers by yes just those whose fingerprints are among the given ones.
pub record AreAnswered (accepts : Accepts) (certificates statements : List (List ℕ)) (prints : List (List ℕ)) (room questions : List SignatureQuestion) (count : ℕ) : Type 0 where
  pub have_room : count ≤ length room
  pub answers : All (λ question. IsTrue (judged accepts certificates statements question) ↔ Contains prints question.fingerprint) (take count questions)

-- The questions about these certificates and statements were asked in this profile, at whatever moment and for whatever purpose, with room
-- for all of them; and the judge answers by yes just those whose fingerprints are among these.
pub record AreJudged (accepts : Accepts) (query : QueryOfTexts) (statements : List Text) (prints : List (List ℕ)) : Type 0 where
  pub about : QueryOfTexts
  pub same_certificates : query_certificates about ≡ query_certificates query
  pub room : List SignatureQuestion
  pub questions : List SignatureQuestion
  pub asked : Asked
  pub tells : TellsQuestions about statements room questions asked
  pub no_fault : asked.refusal.fault ≡ 0
  pub answered : AreAnswered accepts (certificate_texts query) (octets_of_texts statements) prints room questions asked.count

-- the answer tells the verdict of who accepts so, or that memory was refused
abbrev pub TellsVerdictFor : VerdictAnswer → Accepts → QueryOfTexts → List Text → Type 0
TellsVerdictFor answer accepts query statements =
    ((verdict : Verdict) × IsVerdictFor accepts query statements verdict × TellsVerdict answer verdict)
    ⊎ (answer ≡ refusal_answer no_memory)
