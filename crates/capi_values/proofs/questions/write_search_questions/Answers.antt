use Rattle.std.proofs.Common.{◌++◌, length, map, take, drop, ap, ◌∙◌, sym, subst}
use Rattle.cert.specs.Certificate.{seen_certificate}
use Rattle.path_issuers.specs.View.{seen_search}
use Rattle.statements.specs.Statement.{seen_statement}
use Rattle.relying_questions.specs.FindingQuestions.{AreFindingQuestions}
use Rattle.relying_questions.specs.Places.{WereStatementsRead}
use Rattle.relying_questions.specs.Seen.{seen_all}
use Rattle.capi_values.specs.Questions.{question_of}
use Rattle.capi_values.proofs.Among.{are_written_among}
use Rattle.capi_values.proofs.Gathering.{search_read}
use Rattle.capi_values.proofs.questions.write_search_questions.Goals as goal

pub returns : goal.returns
returns c =
    let search = seen_search c.among-among.result in
    let case = c.in_ok-case.case in
    let read = case.statements.items in
    let old = c.args.written.now in
    let is = search_read c.args.search.now c.args.statements.now search (map seen_certificate case.certificates.items) (map seen_statement read)
    c.in_ok-case.ensures.certificates (c.among-among.ensures.certificates ∙ ap (map seen_certificate) c.as_slice.ensures.value) c.among-among.ensures.anchors c.among-among.ensures.moment
    c.among-among.ensures.purpose c.among-among.ensures.options c.in_ok-case.ensures.statements in
    are_written_among c.args.search.now c.args.statements.now search (map seen_statement read) c.in_ok-asked.asked.items old c.write.new.questions _
    c.in_ok-case.ensures.fit is
    (subst (λ these. AreFindingQuestions search (map seen_statement these) (seen_all c.in_ok-asked.asked.items)) c.as_slice-2.ensures.value c.in_ok-asked.ensures.asked)
    (λ octets were these. c.in_ok-asked.ensures.places octets were (subst (λ all. WereStatementsRead octets (map seen_statement all)) (sym c.as_slice-2.ensures.value) these))
    (c.write.ensures ∙ ap (λ asked. take (length old) (map question_of asked) ++ drop (length asked) old) c.as_slice-all.ensures.value)
    (ap length c.as_slice-all.ensures.value)
