use Rattle.std.proofs.Common.{◌++◌, length, map, take, drop, ap, ◌∙◌, sym, subst}
use Rattle.path.specs.Reading.{seen_query}
use Rattle.statements.specs.Statement.{seen_statement}
use Rattle.relying_questions.specs.Places.{WereStatementsRead}
use Rattle.relying_questions.specs.Questions.{questions_of}
use Rattle.capi_values.specs.Questions.{question_of}
use Rattle.capi_values.proofs.Asking.{are_written}
use Rattle.capi_values.proofs.questions.write_questions.Goals as goal

pub returns : goal.returns
returns c =
    let query = seen_query c.in_ok-case.case.query in
    let read = c.in_ok-case.case.statements.items in
    let old = c.args.written.now in
    are_written c.args.query.now c.args.statements.now query (map seen_statement read) c.in_ok-asked.asked.items old c.write.new.questions _
    c.in_ok-case.ensures.fit c.in_ok-case.ensures.reads
    (c.in_ok-asked.ensures.asked ∙ ap (λ these. questions_of query (map seen_statement these)) c.as_slice.ensures.value)
    (λ octets were these. c.in_ok-asked.ensures.places octets were (subst (λ all. WereStatementsRead octets (map seen_statement all)) (sym c.as_slice.ensures.value) these))
    (c.write.ensures ∙ ap (λ asked. take (length old) (map question_of asked) ++ drop (length asked) old) c.as_slice-all.ensures.value)
    (ap length c.as_slice-all.ensures.value)
