-- Questions about a search, as places of texts; and a judge's answers to them give what the judge finds, and why it finds no path.
use Rattle.std.proofs.Common.{◌≡◌, ℕ, ℤ, List, [], ◌∷◌, ◌++◌, Option, Ok, Err, Result, length, map, take, drop, inl, inr, refl, sym, ap, ◌∙◌, subst, arith}
use Rattle.std.specs.Prelude.{Contains}
use Rattle.std.proofs.lemmas.List.{length-map}
use Rattle.cert.specs.Certificate.{Certificate}
use Rattle.path.specs.Query.{Accepts}
use Rattle.path_issuers.specs.Links.{certificate_at}
use Rattle.path_issuers.specs.Questions.{IsChainToTarget, IsNamedBy, IsSearchQuestion, IsThere, issuer_at}
use Rattle.path_issuers.specs.Search.{Search}
use Rattle.path_issuers.specs.declared.question.Issuer.{Issuer}
use Rattle.path_issuers.specs.declared.question.Issuer.TheVariants.{Anchor, Bag}
use Rattle.path_issuers.specs.declared.question.SearchQuestion.{SearchQuestion}
use Rattle.statements.specs.Statement.{Statement, statement_under}
use Rattle.path_search.specs.declared.diagnosis.WhyNot.{WhyNot}
use Rattle.relying_questions.specs.Agreement.{FindingPrintsDecide, WhyNotPrintsDecide}
use Rattle.relying_questions.specs.FindingQuestions.{AreFindingQuestions}
use Rattle.relying_questions.specs.Places.{AllInTexts, StandWhereSearched, certificates_of, texts_at}
use Rattle.relying_questions.specs.Questions.{Judgement, answer, asked_of_statements, of_certificate}
use Rattle.relying_questions.specs.Seen.{judgement_print, seen_all}
use Rattle.relying_questions.specs.declared.question.SignatureQuestion as asked
use Rattle.relying_search.specs.Finding.{Finding}
use Rattle.relying_texts.specs.Reading.{AreStatementsReadUnder}
use Rattle.capi_values.specs.Among.{AreSearchJudged, AreWrittenAmong, TellsFindingOf, WritesSearchQuestions, search_at}
use Rattle.capi_values.specs.Finding.{IsFindingFor, IsFindingOn, TellsSearchAnswer, without_path}
use Rattle.capi_values.specs.Questions.{AreTold, asked_answer, question_of}
use Rattle.capi_values.specs.Searching.{IsSearchRead, IsSearchReadWith, search_certificates, search_texts}
use Rattle.capi_values.specs.Texts.{AreAllOctets, AreCertificates, CertificateTexts, numbered, octets_of_texts, options_in, profile_of}
use Rattle.capi_values.specs.Verdict.{refusal_answer}
use Rattle.capi_values.specs.WhyNot.{IsWhyNotFor, IsWhyNotOn, Rooms, TellsWhyNotAnswer, TellsWhyNotOf, without_end}
use Rattle.capi_values.specs.declared.diagnosis.WhyNotAnswer.{WhyNotAnswer}
use Rattle.capi_values.specs.declared.finding.FindingAnswer.{FindingAnswer}
use Rattle.capi_values.specs.declared.questions.Asked.{Asked}
use Rattle.capi_values.specs.declared.questions.SignatureQuestion.{SignatureQuestion}
use Rattle.capi_values.specs.declared.refusal.Refusal.{Refusal}
use Rattle.capi_values.specs.declared.searching.SearchOfTexts.{SearchOfTexts}
use Rattle.capi_values.specs.declared.texts.Text.{Text}
use Rattle.capi_values.proofs.Asking.{are_told, were_read, were_statements_read}
use Rattle.capi_values.proofs.Judging.{Answers, all_answered, only_memory, refusal_has_fault}
use Rattle.capi_values.proofs.Readings.{one_reading, read_once}

-- ---- the same certificates, at another moment and for another purpose

module _ (s : Search) (moment : ℤ) (purpose : Option (List ℕ)) where
  abbrev other : Search
  other = search_at moment purpose s

  issuer_same : (issuer : Issuer) → issuer_at s issuer ≡ issuer_at other issuer
  issuer_same (Anchor place) = refl
  issuer_same (Bag place) = refl

  there_same : (issuer : Issuer) → IsThere s issuer → IsThere other issuer
  there_same (Anchor place) there = there
  there_same (Bag place) there = there

  named_same : (below : ℕ) (issuer : Issuer) → IsNamedBy s below issuer → IsNamedBy other below issuer
  named_same below (Anchor place) named = named
  named_same below (Bag place) named = named

  chain_same : (place : ℕ) (below : List ℕ) → IsChainToTarget s place below → IsChainToTarget other place below
  chain_same place [] chain = chain
  chain_same place (one ∷ below) chain = (chain.0, chain.1, chain_same one below chain.2)

  question_same : (question : SearchQuestion) → IsSearchQuestion s question → IsSearchQuestion other question
  question_same question is = record {
    there = there_same question.issuer is.there;
    named = named_same question.certificate question.issuer is.named;
    leads = (is.leads.0, chain_same question.certificate is.leads.0 is.leads.1);
  }

at_another : (s : Search) (statements : List Statement) (asked : List Judgement) (moment : ℤ) (purpose : Option (List ℕ)) → AreFindingQuestions s statements asked → AreFindingQuestions (search_at moment purpose s) statements asked
at_another s statements asked moment purpose are = record {
  pairs = are.pairs;
  issuers = are.issuers;
  are_pairs = record {
    each = λ question within. question_same s moment purpose question (are.are_pairs.each question within);
    all = λ question is. are.are_pairs.all question (question_same (search_at moment purpose s) s.moment s.purpose question is);
    once = are.are_pairs.once;
  };
  pairs_in_order = are.pairs_in_order;
  are_issuers = are.are_issuers;
  are_asked =
      are.are_asked
      ∙ (λ k. map (λ (pair : SearchQuestion). of_certificate (issuer_same s moment purpose pair.issuer k) (certificate_at s pair.certificate)) are.pairs
      ++ asked_of_statements (map (λ (issuer : Issuer). issuer_same s moment purpose issuer k) are.issuers) statements);
}

-- ---- what is written

pub are_written_among : (search : SearchOfTexts) (statements : List Text) (read : Search) (these : List Statement) (asked : List asked.SignatureQuestion) (old new : List SignatureQuestion) (count : ℕ)
    → AreAllOctets (search_texts search) × AreAllOctets (octets_of_texts statements) → IsSearchReadWith search statements read these → AreFindingQuestions read these (seen_all asked)
    → StandWhereSearched read these asked → new ≡ take (length old) (map question_of asked) ++ drop (length asked) old → count ≡ length asked → AreWrittenAmong search statements old new count
are_written_among search statements read these asked old new count fit is are places written count_is = record {
  read = read;
  these = these;
  is_read = is;
  asked = seen_all asked;
  may_be_asked = λ moment purpose. at_another read these (seen_all asked) moment purpose are;
  told = are_told (search_texts search) (octets_of_texts statements) asked old new count stand written count_is;
}
  where
    stand : AllInTexts (texts_at (search_texts search) (octets_of_texts statements)) asked
    stand =
        let profile = profile_of search.wide in
        let others = search.target.octets.now ∷ octets_of_texts search.bag.now in
        let certificates = were_read profile (octets_of_texts search.anchors.now) others (certificates_of read) fit.0
        is.search_is.certificates_are.certificates in
        subst (λ (them : List (List ℕ)). AllInTexts (texts_at them (octets_of_texts statements)) asked) certificates.1
        (places (octets_of_texts statements) certificates.0 (were_statements_read profile (octets_of_texts statements) these fit.1 is.statements_are))

-- ---- one search and its statements

parted : (xs ys : List Certificate) (t u : Certificate) (bs cs : List Certificate) → xs ++ t ∷ bs ≡ ys ++ u ∷ cs → length xs ≡ length ys → (xs ≡ ys) × (t ≡ u) × (bs ≡ cs)
parted [] [] t u bs cs same count =
    let first : t ≡ u = cc in
    let rest : bs ≡ cs = cc in
    (refl, first, rest)
parted [] (y ∷ ys) t u bs cs same count = absurd (omega (arith, count))
parted (x ∷ xs) [] t u bs cs same count = absurd (omega (arith, count))
parted (x ∷ xs) (y ∷ ys) t u bs cs same count =
    let first : x ≡ y = cc in
    let behind : xs ++ t ∷ bs ≡ ys ++ u ∷ cs = cc in
    let rest = parted xs ys t u bs cs behind (omega (arith, count)) in
    (ap (λ it. it ∷ xs) first ∙ ap (λ them. y ∷ them) rest.0, rest.1, rest.2)

-- where no fault was told, questions were written
was_written : (search : SearchOfTexts) (statements : List Text) (old new : List SignatureQuestion) (asked : Asked) (result : Result ℕ Refusal)
    → WritesSearchQuestions search statements old new result → asked ≡ asked_answer result → asked.refusal.fault ≡ 0 → AreWrittenAmong search statements old new asked.count
was_written search statements old new asked (Ok count) writes is none =
    subst (AreWrittenAmong search statements old new) (sym (ap (λ (it : Asked). it.count) is)) writes
was_written search statements old new asked (Err told) writes is none =
    absurd (omega (arith, refusal_has_fault (search_certificates search) statements told writes.0, ap (λ (it : Asked). it.refusal.fault) is, none))

-- ---- the judge's answers

module _ (accepts : Accepts) (search : SearchOfTexts) (statements : List Text) (prints : List (List ℕ)) (are : AreSearchJudged accepts search statements prints) where
  written : AreWrittenAmong are.about statements are.room are.questions are.asked.count
  written = was_written are.about statements are.room are.questions are.asked are.tells.0 are.tells.1 are.tells.2 are.no_fault

  certificates_are : AreCertificates (search_certificates search) (certificates_of written.read)
  certificates_are = subst (λ texts. AreCertificates texts (certificates_of written.read)) are.same_certificates written.is_read.search_is.certificates_are.certificates

  statements_are : AreStatementsReadUnder (profile_of search.wide) (octets_of_texts statements) written.these
  statements_are =
      subst (λ (texts : CertificateTexts). AreStatementsReadUnder texts.profile (octets_of_texts statements) written.these) are.same_certificates
      written.is_read.statements_are

  same_anchors : length are.about.anchors.now ≡ length search.anchors.now
  same_anchors =
      sym (length-map are.about.anchors.now (λ (text : Text). text.octets.now)) ∙ ap (λ (texts : CertificateTexts). length texts.anchors) are.same_certificates
      ∙ length-map search.anchors.now (λ (text : Text). text.octets.now)

  good : (one : Judgement) → Contains written.asked one → Answers (answer accepts one) (judgement_print one) prints
  good =
      all_answered accepts (search_texts search) (octets_of_texts statements) prints written.asked are.room are.questions are.asked.count
      (subst (λ texts. AreTold (numbered texts) (octets_of_texts statements) written.asked are.room are.questions are.asked.count) are.same_certificates
      written.told) are.answered

  asked_of : (read : Search) → IsSearchRead search read → AreFindingQuestions read written.these written.asked
  asked_of read is =
      let certificates = read_once (certificates_of written.read) (certificates_of read) (sym certificates_are ∙ is.certificates_are.certificates) in
      let count : length written.read.anchors ≡ length read.anchors =
      written.is_read.search_is.certificates_are.anchors ∙ same_anchors ∙ sym is.certificates_are.anchors in
      let parts = parted written.read.anchors read.anchors written.read.target read.target written.read.bag read.bag certificates count in
      let options : written.read.options ≡ read.options =
      written.is_read.search_is.options ∙ ap (λ (texts : CertificateTexts). options_in texts.profile) are.same_certificates ∙ sym is.options in
      let same : search_at read.moment read.purpose written.read ≡ read = λ k. record {
        anchors = parts.0 k;
        bag = parts.2 k;
        target = parts.1 k;
        moment = read.moment;
        purpose = read.purpose;
        options = options k;
      } in
      subst (λ (s : Search). AreFindingQuestions s written.these written.asked) same (written.may_be_asked read.moment read.purpose)

  asked_again : (read : Search) (these : List Statement) → IsSearchReadWith search statements read these → AreFindingQuestions read these written.asked
  asked_again read these is =
      subst (λ those. AreFindingQuestions read those written.asked)
      (one_reading (statement_under (profile_of search.wide)) (octets_of_texts statements) written.these these statements_are is.statements_are)
      (asked_of read is.search_is)

  by_judge : FindingPrintsDecide → (finding : Finding) → IsFindingOn search statements prints finding → IsFindingFor accepts search statements finding
  by_judge law finding on =
      let by_prints = on.is_finding in
      record {
        read = by_prints.read;
        these = by_prints.these;
        is_read = by_prints.is_read;
        is_finding = (law accepts on.accepts by_prints.read by_prints.these written.asked prints (asked_again by_prints.read by_prints.these by_prints.is_read) on.accepts_prints good _ finding).1 by_prints.is_finding;
      }

  pub finding_of_judge : FindingPrintsDecide → (result : FindingAnswer) (old new : List ℕ) → TellsSearchAnswer result search statements prints old new → TellsFindingOf result accepts search statements old new
  finding_of_judge law result old new (inl (finding, on, tells)) = inl (finding, by_judge law finding on, tells)
  finding_of_judge law result old new (inr (told, behind)) =
      inr (
        behind.1 ∙ ap (λ (it : Refusal). without_path (refusal_answer it))
            (only_memory (search_certificates search) statements (certificates_of written.read) written.these certificates_are statements_are told behind.0),
        behind.2,
      )

  why_by_judge : WhyNotPrintsDecide → (found : Option WhyNot) → IsWhyNotOn search prints found → IsWhyNotFor accepts search found
  why_by_judge law found on =
      let by_prints = on.is_why_not in
      record {
        read = by_prints.read;
        is_read = by_prints.is_read;
        is_why_not = (law accepts on.accepts by_prints.read written.these written.asked prints (asked_of by_prints.read by_prints.is_read) on.accepts_prints good _ found).1 by_prints.is_why_not;
      }

  pub why_not_of_judge : WhyNotPrintsDecide → (result : WhyNotAnswer) (old new : Rooms) → TellsWhyNotAnswer result search prints old new → TellsWhyNotOf result accepts search old new
  why_not_of_judge law result old new (inl (found, on, tells)) = inl (found, why_by_judge law found on, tells)
  why_not_of_judge law result old new (inr (told, behind)) =
      inr (
        behind.1 ∙ ap (λ (it : Refusal). without_end 5 0 it)
            (only_memory (search_certificates search) statements (certificates_of written.read) written.these certificates_are statements_are told
            (inl behind.0)),
        behind.2,
      )
