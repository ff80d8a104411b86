use Rattle.std.proofs.Common.{map, subst}
use Rattle.path_issuers.specs.View.{seen_search}
use Rattle.path_search.specs.Paths.{AnswersNext}
use Rattle.relying_search.proofs.Laws.{steps_ended, steps_found, steps_gave_up}
use Rattle.statements.specs.Statement.{seen_statement}
use Rattle.relying_texts.specs.Texts.{held_for}
use Rattle.relying_texts.proofs.finding.ask_next.Goals as goal

pub returns-in_ok-verdict-in-Found : goal.returns-in_ok-verdict-in-Found
returns-in_ok-verdict-in-Found g c =
    let accepts = g.V.Verifier.accepts c.args.verifier.now in
    steps_found accepts (held_for accepts (map seen_statement c.args.statements.now)) (seen_search c.args.search.now) c.args.paths.now _ c.args.asked.now _ c.in-Found.path
    c.in_ok-verdict-in-Found.verdict c.note.result (subst (AnswersNext c.args.paths.now _) c.in-Found.is c.in_ok-path.ensures.answers) c.in_ok-verdict-in-Found.ensures c.note.ensures.notes

pub returns-in-NotFound : goal.returns-in-NotFound
returns-in-NotFound g c =
    let accepts = g.V.Verifier.accepts c.args.verifier.now in
    steps_ended accepts (held_for accepts (map seen_statement c.args.statements.now)) (seen_search c.args.search.now) c.args.paths.now _ c.args.asked.now c.end.new.self c.end.result
    (subst (AnswersNext c.args.paths.now _) c.in-NotFound.is c.in_ok-path.ensures.answers) c.end.ensures.ends

pub returns-in-GaveUp : goal.returns-in-GaveUp
returns-in-GaveUp g c =
    let accepts = g.V.Verifier.accepts c.args.verifier.now in
    steps_gave_up accepts (held_for accepts (map seen_statement c.args.statements.now)) (seen_search c.args.search.now) c.args.paths.now _ c.args.asked.now c.args.asked.now
    (subst (AnswersNext c.args.paths.now _) c.in-GaveUp.is c.in_ok-path.ensures.answers)
