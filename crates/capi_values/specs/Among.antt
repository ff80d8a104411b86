-- What a judge of signatures may be asked for what is found, as numbers and parts of texts; and ask, judge, find.
use Rattle.std.specs.Prelude.{◌≡◌, ◌⊎◌, ℕ, ℤ, List, Option, Result, Ok, Err, length}
use Rattle.path.specs.Query.{Accepts}
use Rattle.path_issuers.specs.Search.{Search}
use Rattle.statements.specs.Statement.{Statement}
use Rattle.relying_questions.specs.FindingQuestions.{AreFindingQuestions}
use Rattle.relying_questions.specs.Questions.{Judgement}
use Rattle.relying_search.specs.Finding.{Finding}
use Rattle.capi_values.specs.Finding.{IsFindingFor, TellsFinding, without_path}
use Rattle.capi_values.specs.Judging.{AreAnswered}
use Rattle.capi_values.specs.Questions.{AreTold, asked_answer}
use Rattle.capi_values.specs.Refusal.{TellsRefusal, no_memory}
use Rattle.capi_values.specs.Searching.{IsSearchReadWith, search_certificates, search_texts}
use Rattle.capi_values.specs.Texts.{octets_of_texts}
use Rattle.capi_values.specs.Verdict.{refusal_answer}
use Rattle.capi_values.specs.declared.finding.FindingAnswer.{FindingAnswer}
use Rattle.capi_values.specs.declared.questions.Asked.{Asked}
use Rattle.capi_values.specs.declared.questions.SignatureQuestion.{SignatureQuestion}
use Rattle.capi_values.specs.declared.refusal.Refusal.{Refusal}
use Rattle.capi_values.specs.declared.searching.SearchOfTexts.{SearchOfTexts}
use Rattle.capi_values.specs.declared.texts.Text.{Text}

-- the same certificates, at another moment and for another purpose
abbrev pub search_at : ℤ → Option (List ℕ) → Search → Search
search_at moment purpose read = record read { moment = moment; purpose = purpose }

-- what may be asked for what is found, at whatever moment and for whatever purpose
abbrev pub AreQuestionsAmong : Search → List Statement → List Judgement → Type 0
AreQuestionsAmong read these asked =
    (moment : ℤ) (purpose : Option (List ℕ)) → AreFindingQuestions (search_at moment purpose read) these asked

-- the questions about a search that the texts hold
pub record AreWrittenAmong (search : SearchOfTexts) (statements : List Text) (old new : List SignatureQuestion) (count : ℕ) : Type 0 where
  pub read : Search
  pub these : List Statement
  pub is_read : IsSearchReadWith search statements read these
  pub asked : List Judgement
  pub may_be_asked : AreQuestionsAmong read these asked
  pub told : AreTold (search_texts search) (octets_of_texts statements) asked old new count

-- these, or what is refused; nothing is written then
abbrev pub WritesSearchQuestions : SearchOfTexts → List Text → List SignatureQuestion → List SignatureQuestion → Result ℕ Refusal → Type 0
WritesSearchQuestions search statements old new (Ok count) = AreWrittenAmong search statements old new count
WritesSearchQuestions search statements old new (Err told) = TellsRefusal (search_certificates search) statements told × (new ≡ old)

abbrev pub TellsSearchQuestions : SearchOfTexts → List Text → List SignatureQuestion → List SignatureQuestion → Asked → Type 0
TellsSearchQuestions search statements old new answer =
    (result : Result ℕ Refusal) × WritesSearchQuestions search statements old new result × (answer ≡ asked_answer result)

-- ---- ask, judge, find

-- The questions about these certificates, with the same anchors, and about these statements were asked in this profile, at whatever moment
-- and for whatever purpose, with room for all of them; and the judge answers by yes just those whose fingerprints are among these.
pub record AreSearchJudged (accepts : Accepts) (search : SearchOfTexts) (statements : List Text) (prints : List (List ℕ)) : Type 0 where
  pub about : SearchOfTexts
  pub same_certificates : search_certificates about ≡ search_certificates search
  pub room : List SignatureQuestion
  pub questions : List SignatureQuestion
  pub asked : Asked
  pub tells : TellsSearchQuestions about statements room questions asked
  pub no_fault : asked.refusal.fault ≡ 0
  pub answered : AreAnswered accepts (search_texts search) (octets_of_texts statements) prints room questions asked.count

-- the same of the questions about these certificates, and about some statements or none
abbrev pub AreCertificatesJudged : Accepts → SearchOfTexts → List (List ℕ) → Type 0
AreCertificatesJudged accepts search prints = (statements : List Text) × AreSearchJudged accepts search statements prints

-- the answer tells what is found by who accepts so, or that memory was refused
abbrev pub TellsFindingOf : FindingAnswer → Accepts → SearchOfTexts → List Text → List ℕ → List ℕ → Type 0
TellsFindingOf answer accepts search statements old new =
    ((finding : Finding) × IsFindingFor accepts search statements finding × TellsFinding (length search.anchors.now) answer old new finding)
    ⊎ ((answer ≡ without_path (refusal_answer no_memory)) × (new ≡ old))
