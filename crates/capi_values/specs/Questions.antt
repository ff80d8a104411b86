-- What a judge of signatures may be asked, as numbers and parts of texts.
use Rattle.std.specs.Prelude.{◌≡◌, ◌⊎◌, ℕ, ℤ, List, [], ◌∷◌, Option, Result, Ok, Err, length}
use Rattle.path.specs.Query as of_path
use Rattle.statements.specs.Statement.{Statement}
use Rattle.relying_questions.specs.Questions.{Judgement, questions_of}
use Rattle.relying_questions.specs.Seen.{judgement_print, seen_question}
use Rattle.relying_questions.specs.declared.part.TextPart as of_text
use Rattle.relying_questions.specs.declared.part.WhichText.{WhichText}
use Rattle.relying_questions.specs.declared.part.WhichText.TheVariants as source
use Rattle.relying_questions.specs.declared.question.SignatureQuestion as asked
use Rattle.capi_values.specs.Arrays.{AreWrittenTo}
use Rattle.capi_values.specs.Parts.{IsPart}
use Rattle.capi_values.specs.Refusal.{TellsRefusal, no_refusal}
use Rattle.capi_values.specs.Texts.{IsAt, IsRead, certificate_texts, octets_of_texts, query_certificates}
use Rattle.capi_values.specs.declared.refusal.Refusal.{Refusal}
use Rattle.capi_values.specs.declared.texts.QueryOfTexts.{QueryOfTexts}
use Rattle.capi_values.specs.declared.texts.Text.{Text}
use Rattle.capi_values.specs.declared.questions.Place.{Place}
use Rattle.capi_values.specs.declared.questions.SignatureQuestion.{SignatureQuestion}
use Rattle.capi_values.specs.declared.questions.Asked.{Asked}

-- ---- what is written

-- the octets of a certificate or of a statement
abbrev pub IsText : List (List ℕ) → List (List ℕ) → ℕ → ℕ → List ℕ → Type 0
IsText certificates statements text index octets =
    ((text ≡ 1) × IsAt certificates index octets) ⊎ ((text ≡ 2) × IsAt statements index octets)

-- the octets stand at the place, in a text that is there
pub record IsPlace (certificates statements : List (List ℕ)) (place : Place) (octets : List ℕ) : Type 0 where
  pub text : List ℕ
  pub is_text : IsText certificates statements place.text place.index text
  pub is_part : IsPart text (record { offset = place.offset; length = place.length }) octets

-- the question, whose parts stand in the texts
pub record TellsQuestion (certificates statements : List (List ℕ)) (question : SignatureQuestion) (asked : Judgement) : Type 0 where
  pub algorithm : IsPlace certificates statements question.algorithm asked.algorithm
  pub key_info : IsPlace certificates statements question.key_info asked.key_info
  pub message : IsPlace certificates statements question.message asked.message
  pub signature : IsPlace certificates statements question.signature asked.signature
  pub fingerprint : question.fingerprint ≡ judgement_print asked

-- each of the questions, in order
abbrev pub TellEach : List (List ℕ) → List (List ℕ) → List SignatureQuestion → List Judgement → Type 0
TellEach certificates statements [] [] = Unit {0}
TellEach certificates statements [] (one ∷ asked) = ⊥
TellEach certificates statements (question ∷ questions) [] = ⊥
TellEach certificates statements (question ∷ questions) (one ∷ asked) =
    TellsQuestion certificates statements question one × TellEach certificates statements questions asked

-- what may be asked about the path, at whatever moment and for whatever purpose
abbrev pub AreQuestionsAbout : of_path.Query → List Statement → List Judgement → Type 0
AreQuestionsAbout read these asked =
    (moment : ℤ) (purpose : Option (List ℕ)) →
    asked ≡ questions_of (record read { moment = moment; purpose = purpose }) these

-- Of the questions as many are written as there is room for, and there are so many.
pub record AreTold (certificates statements : List (List ℕ)) (asked : List Judgement) (old new : List SignatureQuestion) (count : ℕ) : Type 0 where
  pub questions : List SignatureQuestion
  pub tell_each : TellEach certificates statements questions asked
  pub written : AreWrittenTo questions old new count

-- the questions about a path that the texts hold
pub record AreWritten (query : QueryOfTexts) (statements : List Text) (old new : List SignatureQuestion) (count : ℕ) : Type 0 where
  pub read : of_path.Query
  pub these : List Statement
  pub is_read : IsRead query statements read these
  pub asked : List Judgement
  pub may_be_asked : AreQuestionsAbout read these asked
  pub told : AreTold (certificate_texts query) (octets_of_texts statements) asked old new count

-- The questions about what the texts hold, or what is refused; nothing is written then.
abbrev pub WritesQuestions : QueryOfTexts → List Text → List SignatureQuestion → List SignatureQuestion → Result ℕ Refusal → Type 0
WritesQuestions query statements old new (Ok count) = AreWritten query statements old new count
WritesQuestions query statements old new (Err told) = TellsRefusal (query_certificates query) statements told × (new ≡ old)

abbrev pub asked_answer : Result ℕ Refusal → Asked
asked_answer (Ok count) = record { refusal = no_refusal; count = count }
asked_answer (Err told) = record { refusal = told; count = 0 }

abbrev pub TellsQuestions : QueryOfTexts → List Text → List SignatureQuestion → List SignatureQuestion → Asked → Type 0
TellsQuestions query statements old new answer =
    (result : Result ℕ Refusal) × WritesQuestions query statements old new result × (answer ≡ asked_answer result)

-- ---- what was asked, as it is written

abbrev pub text_number : WhichText → ℕ
text_number (source.Certificate number) = 1
text_number (source.Statement index) = 2

abbrev pub text_index : WhichText → ℕ
text_index (source.Certificate number) = number
text_index (source.Statement index) = index

abbrev pub place_of : of_text.TextPart → Place
place_of part = record {
  text = text_number part.source;
  index = text_index part.source;
  offset = part.at;
  length = length part.octets.now;
}

abbrev pub question_of : asked.SignatureQuestion → SignatureQuestion
question_of asked = record {
  algorithm = place_of asked.algorithm;
  key_info = place_of asked.key_info;
  message = place_of asked.message;
  signature = place_of asked.signature;
  fingerprint = judgement_print (seen_question asked);
}
