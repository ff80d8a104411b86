-- A judge's answers to the questions give his verdict.
use Rattle.std.proofs.Common.{◌≡◌, ◌<◌, ◌↔◌, ◌+◌, ℕ, List, [], ◌∷◌, take, Ok, Err, Result, inl, inr, sym, ap, subst, ◌∙◌, arith}
use Rattle.std.specs.Prelude.{Bool, Contains, IsTrue, slice_index_or, slice_range}
use Rattle.std.specs.List.{All, AllByRecursion}
use Rattle.std.proofs.lemmas.List.Elements.{All-contains, All-from_recursion, recursion_from_All}
use Rattle.cert.specs.Certificate.{Certificate}
use Rattle.cert.specs.Fault.{cert_rule_number}
use Rattle.cert.specs.declared.fault.CertRule.{CertRule}
use Rattle.cert.specs.declared.fault.CertRule.TheVariants as cert_rule
use Rattle.names.specs.Fault.{name_rule_number}
use Rattle.names.specs.NameRule.{NameRule}
use Rattle.names.specs.NameRule.TheVariants as name
use Rattle.path.specs.Query.{Accepts, Query}
use Rattle.relying_agreement.specs.declared.verdict.Verdict.{Verdict}
use Rattle.relying_questions.specs.Agreement.{PrintsDecide}
use Rattle.relying_questions.specs.Questions.{Judgement, answer, questions_of}
use Rattle.relying_questions.specs.Seen.{judgement_print}
use Rattle.relying_texts.specs.Reading.{AreStatementsReadUnder}
use Rattle.statements.specs.Statement.{Statement, statement_under}
use Rattle.statements_parts.specs.Fault.{statement_rule_number}
use Rattle.statements_parts.specs.declared.fault.StatementRule.{StatementRule}
use Rattle.statements_parts.specs.declared.fault.StatementRule.TheVariants as rule
use Rattle.capi_values.specs.Judging.{AreAnswered, AreJudged, TellsVerdictFor, judged, octets_at, texts_numbered}
use Rattle.capi_values.specs.Parts.{IsPart}
use Rattle.capi_values.specs.Questions.{AreTold, AreWritten, IsPlace, IsText, TellEach, TellsQuestion, WritesQuestions, asked_answer}
use Rattle.capi_values.specs.Refusal.{TellsRefusal, no_memory}
use Rattle.capi_values.specs.Texts.{AreCertificates, CertificateTexts, IsAt, IsRead}
use Rattle.capi_values.specs.Texts.{certificate_texts, numbered, octets_of_texts, options_in, profile_of, query_certificates}
use Rattle.capi_values.specs.Verdict.{IsVerdictFor, IsVerdictOn, TellsAnswer, refusal_answer}
use Rattle.capi_values.specs.declared.answer.VerdictAnswer.{VerdictAnswer}
use Rattle.capi_values.specs.declared.questions.Asked.{Asked}
use Rattle.capi_values.specs.declared.questions.Place.{Place}
use Rattle.capi_values.specs.declared.questions.SignatureQuestion.{SignatureQuestion}
use Rattle.capi_values.specs.declared.refusal.Refusal.{Refusal}
use Rattle.capi_values.specs.declared.texts.QueryOfTexts.{QueryOfTexts}
use Rattle.capi_values.specs.declared.texts.Text.{Text}
use Rattle.capi_values.proofs.Readings.{all_written, none_is_refused, none_refused, one_reading, query_read, read_once}

-- ---- no fault has the number 0

some_name : (one : NameRule) → 0 < name_rule_number one
some_name name.NameLayout = omega arith
some_name one = omega arith

some_cert : (one : CertRule) → 0 < cert_rule_number one
some_cert (cert_rule.Name fault) = some_name fault
some_cert one = omega arith

some_statement : (one : StatementRule) → 0 < statement_rule_number one
some_statement (rule.Name fault) = some_name fault
some_statement one = omega arith

number_of : {told other : Refusal} → told ≡ other → told.fault ≡ other.fault
number_of same = ap (λ (it : Refusal). it.fault) same

pub refusal_has_fault : (certificates : CertificateTexts) (statements : List Text) (told : Refusal) → TellsRefusal certificates statements told → 0 < told.fault
refusal_has_fault certificates statements told (inl (inl (one, first, is))) = omega (arith, number_of is, some_cert one)
refusal_has_fault certificates statements told (inl (inr is)) = omega (arith, number_of is)
refusal_has_fault certificates statements told (inr (these, are, inl (one, first, is))) = omega (arith, number_of is, some_statement one)
refusal_has_fault certificates statements told (inr (these, are, inr is)) = omega (arith, number_of is)

-- what was read once is not refused
pub only_memory : (certificates : CertificateTexts) (statements : List Text) (read : List Certificate) (these : List Statement)
    → AreCertificates certificates read
    → AreStatementsReadUnder certificates.profile (octets_of_texts statements) these
    → (told : Refusal) → TellsRefusal certificates statements told → told ≡ no_memory
only_memory certificates statements read these are said told (inl (inl (one, first, is))) =
    absurd (none_is_refused read first.before first.refused first.behind (one, told.offset) (sym are ∙ first.all_are) first.fault_is)
only_memory certificates statements read these are said told (inl (inr is)) = is
only_memory certificates statements read these are said told (inr (others, were, inl (one, first, is))) =
    absurd (none_refused (statement_under certificates.profile) (octets_of_texts statements) these [] told.index (one, told.offset) said first.within
    first.refused)
only_memory certificates statements read these are said told (inr (others, were, inr is)) = is

-- ---- what was asked

-- where no fault was told, questions were written
was_written : (query : QueryOfTexts) (statements : List Text) (old new : List SignatureQuestion) (asked : Asked) (result : Result ℕ Refusal)
    → WritesQuestions query statements old new result → asked ≡ asked_answer result → asked.refusal.fault ≡ 0 → AreWritten query statements old new asked.count
was_written query statements old new asked (Ok count) writes is none =
    subst (AreWritten query statements old new) (sym (ap (λ (it : Asked). it.count) is)) writes
was_written query statements old new asked (Err told) writes is none =
    absurd (omega (arith, refusal_has_fault (query_certificates query) statements told writes.0, ap (λ (it : Asked). it.refusal.fault) is, none))

-- ---- the octets at a place

at_place : (certificates statements : List (List ℕ)) (place : Place) (texts : List (List ℕ)) (text octets : List ℕ)
    → texts_numbered certificates statements place.text ≡ texts → IsAt texts place.index text → IsPart text (record { offset = place.offset; length = place.length }) octets
    → octets_at certificates statements place ≡ octets
at_place certificates statements place texts text octets these at part =
    ap (λ all. slice_range (slice_index_or all place.index []) place.offset (place.offset + place.length)) these
    ∙ ap (λ it. slice_range it place.offset (place.offset + place.length)) at.1
    ∙ part.octets_are

by_number : (certificates statements : List (List ℕ)) (place : Place) (text octets : List ℕ) → IsText certificates statements place.text place.index text
    → IsPart text (record { offset = place.offset; length = place.length }) octets → octets_at certificates statements place ≡ octets
by_number certificates statements place text octets (inl is) part =
    at_place certificates statements place certificates text octets (ap (texts_numbered certificates statements) is.0) is.1 part
by_number certificates statements place text octets (inr is) part =
    at_place certificates statements place statements text octets (ap (texts_numbered certificates statements) is.0) is.1 part

stands : (certificates statements : List (List ℕ)) (place : Place) (octets : List ℕ) → IsPlace certificates statements place octets → octets_at certificates statements place ≡ octets
stands certificates statements place octets is = by_number certificates statements place is.text octets is.is_text is.is_part

-- ---- the judge's answers

answers_same : (accepts : Accepts) (certificates statements : List (List ℕ)) (question : SignatureQuestion) (one : Judgement) → TellsQuestion certificates statements question one
    → judged accepts certificates statements question ≡ answer accepts one
answers_same accepts certificates statements question one tells =
    let at = octets_at certificates statements in
    ap (λ (it : List ℕ). accepts it (at question.key_info) (at question.message) (at question.signature)) (stands certificates statements question.algorithm one.algorithm tells.algorithm)
    ∙ ap (λ (it : List ℕ). accepts one.algorithm it (at question.message) (at question.signature)) (stands certificates statements question.key_info one.key_info tells.key_info)
    ∙ ap (λ (it : List ℕ). accepts one.algorithm one.key_info it (at question.signature)) (stands certificates statements question.message one.message tells.message)
    ∙ ap (λ (it : List ℕ). accepts one.algorithm one.key_info one.message it) (stands certificates statements question.signature one.signature tells.signature)

-- a judge's answer to a question, and whether its fingerprint is handed over
abbrev pub Answers : Bool → List ℕ → List (List ℕ) → Type 0
Answers given print prints = IsTrue given ↔ Contains prints print

each_answered : (accepts : Accepts) (certificates statements : List (List ℕ)) (prints : List (List ℕ)) (questions : List SignatureQuestion) (asked : List Judgement)
    → TellEach certificates statements questions asked
    → AllByRecursion (λ (question : SignatureQuestion). Answers (judged accepts certificates statements question) question.fingerprint prints) questions
    → AllByRecursion (λ one. Answers (answer accepts one) (judgement_print one) prints) asked
each_answered accepts certificates statements prints [] [] tells all = tt
each_answered accepts certificates statements prints [] (one ∷ asked) tells all = absurd tells
each_answered accepts certificates statements prints (question ∷ questions) [] tells all = absurd tells
each_answered accepts certificates statements prints (question ∷ questions) (one ∷ asked) tells all = (
  subst (λ given. Answers given (judgement_print one) prints) (answers_same accepts certificates statements question one tells.0)
      (subst (λ print. Answers (judged accepts certificates statements question) print prints) tells.0.fingerprint all.0),
  each_answered accepts certificates statements prints questions asked tells.1 all.1,
)

-- each question that was told is answered by yes exactly if its fingerprint is among these
pub all_answered : (accepts : Accepts) (certificates statements : List (List ℕ)) (prints : List (List ℕ)) (asked : List Judgement) (room questions : List SignatureQuestion) (count : ℕ)
    → AreTold certificates statements asked room questions count → AreAnswered accepts certificates statements prints room questions count
    → (one : Judgement) → Contains asked one → Answers (answer accepts one) (judgement_print one) prints
all_answered accepts certificates statements prints asked room questions count told are one within =
    let Good : SignatureQuestion → Type 0 = λ question. Answers (judged accepts certificates statements question) question.fingerprint prints in
    let GoodAnswer : Judgement → Type 0 = λ it. Answers (answer accepts it) (judgement_print it) prints in
    let all : take count questions ≡ told.questions = all_written told.questions room questions count told.written.written told.written.count_is are.have_room in
    All-contains GoodAnswer asked one
    (All-from_recursion GoodAnswer asked
    (each_answered accepts certificates statements prints told.questions asked told.tell_each (recursion_from_All Good told.questions (subst (All Good) all are.answers))))
    within

-- ---- one query and its statements

same_questions : (one other : Query) (these those : List Statement) → one.anchor ∷ one.certificates ≡ other.anchor ∷ other.certificates
    → one.options ≡ other.options → these ≡ those → questions_of (record one { moment = other.moment; purpose = other.purpose }) these ≡ questions_of other those
same_questions one other these those certificates options same =
    let anchor : one.anchor ≡ other.anchor = cc in
    let path : one.certificates ≡ other.certificates = cc in
    let whole : record one { moment = other.moment; purpose = other.purpose } ≡ other = λ k. record {
      anchor = anchor k;
      certificates = path k;
      moment = other.moment;
      purpose = other.purpose;
      options = options k;
    } in
    ap (λ it. questions_of it these) whole ∙ ap (questions_of other) same

module _ (accepts : Accepts) (query : QueryOfTexts) (statements : List Text) (prints : List (List ℕ)) (are : AreJudged accepts query statements prints) where
  pub written : AreWritten are.about statements are.room are.questions are.asked.count
  written = was_written are.about statements are.room are.questions are.asked are.tells.0 are.tells.1 are.tells.2 are.no_fault

  certificates_are : AreCertificates (query_certificates query) (written.read.anchor ∷ written.read.certificates)
  certificates_are =
      subst (λ texts. AreCertificates texts (written.read.anchor ∷ written.read.certificates)) are.same_certificates
      (query_read are.about written.read written.is_read.query_is)

  statements_are : AreStatementsReadUnder (profile_of query.wide) (octets_of_texts statements) written.these
  statements_are =
      subst (λ (texts : CertificateTexts). AreStatementsReadUnder texts.profile (octets_of_texts statements) written.these) are.same_certificates
      written.is_read.statements_are

  options_are : (read : Query) (these : List Statement) → IsRead query statements read these → written.read.options ≡ read.options
  options_are read these is =
      written.is_read.query_is.options_is ∙ ap (λ (texts : CertificateTexts). options_in texts.profile) are.same_certificates ∙ sym is.query_is.options_is

  pub good : (one : Judgement) → Contains written.asked one → Answers (answer accepts one) (judgement_print one) prints
  good =
      all_answered accepts (certificate_texts query) (octets_of_texts statements) prints written.asked are.room are.questions are.asked.count
      (subst (λ texts. AreTold (numbered texts) (octets_of_texts statements) written.asked are.room are.questions are.asked.count) are.same_certificates
      written.told) are.answered

  pub read_again : (read : Query) (these : List Statement) → IsRead query statements read these → written.asked ≡ questions_of read these
  read_again read these is =
      written.may_be_asked read.moment read.purpose
      ∙ same_questions written.read read written.these these
      (read_once (written.read.anchor ∷ written.read.certificates) (read.anchor ∷ read.certificates) (sym certificates_are ∙ query_read query read is.query_is))
      (options_are read these is)
      (one_reading (statement_under (profile_of query.wide)) (octets_of_texts statements) written.these these statements_are is.statements_are)

  -- what was asked about was read, so only memory can be refused
  pub only_refused : (told : Refusal) → TellsRefusal (query_certificates query) statements told → told ≡ no_memory
  only_refused told refused =
      only_memory (query_certificates query) statements (written.read.anchor ∷ written.read.certificates) written.these certificates_are statements_are told
      refused

  by_judge : PrintsDecide → (verdict : Verdict) → IsVerdictOn query statements prints verdict → IsVerdictFor accepts query statements verdict
  by_judge law verdict on =
      let by_prints = on.is_verdict in
      let each : (one : Judgement) → Contains (questions_of by_prints.read by_prints.these) one → Answers (answer accepts one) (judgement_print one) prints =
      λ one within. good one (subst (λ all. Contains all one) (sym (read_again by_prints.read by_prints.these by_prints.is_read)) within) in
      record {
        read = by_prints.read;
        these = by_prints.these;
        is_read = by_prints.is_read;
        is_verdict = (law accepts on.accepts by_prints.read by_prints.these prints on.accepts_prints each verdict).1 by_prints.is_verdict;
      }

  pub verdict_of_judge : PrintsDecide → (result : VerdictAnswer) → TellsAnswer result query statements prints → TellsVerdictFor result accepts query statements
  verdict_of_judge law result (inl (verdict, on, tells)) = inl (verdict, by_judge law verdict on, tells)
  verdict_of_judge law result (inr (told, refused, is)) =
      inr (is ∙ ap refusal_answer (only_refused told refused))
