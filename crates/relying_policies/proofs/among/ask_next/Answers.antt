use Rattle.std.proofs.Common.{map, subst}
use Rattle.std.proofs.lemmas.Result.{IfOk-weaker}
use Rattle.path_issuers.specs.View.{seen_search}
use Rattle.path_search.specs.Answer.{seen_candidate}
use Rattle.path_search.specs.Paths.{AnswersNext}
use Rattle.statements.specs.Statement.{seen_statement}
use Rattle.relying_search.proofs.AmongLaws.{steps_ended, steps_found, steps_gave_up}
use Rattle.relying_texts.specs.Texts.{held_for}
use Rattle.relying_policies.specs.ByStatements.{AsksByStatements, StepsByStatements}
use Rattle.relying_policies.proofs.among.ask_next.Goals as goal

pub returns-in-Found : goal.returns-in-Found
returns-in-Found g c =
    let accepts = g.V.Verifier.accepts c.args.verifier.now in
    let statements = map seen_statement c.args.statements.now in
    let s = seen_search c.args.search.now in
    let counts = g.F.PathFilter.counts c.args.filter.now in
    IfOk-weaker c.ask_about.result (AsksByStatements counts accepts statements s c.args.asked.now c.ask_about.new.asked (seen_candidate c.in-Found.path))
    (StepsByStatements counts accepts statements s c.args.paths.now c.args.asked.now c.next.new.self c.ask_about.new.asked)
    (λ answer asks.
    steps_found (counts accepts s) accepts (held_for accepts statements) s c.args.paths.now c.next.new.self c.args.asked.now c.ask_about.new.asked c.in-Found.path answer
    (subst (AnswersNext c.args.paths.now c.next.new.self) c.in-Found.is c.in_ok-path.ensures.answers) asks)
    c.ask_about.ensures

pub returns-in-NotFound : goal.returns-in-NotFound
returns-in-NotFound g c =
    let accepts = g.V.Verifier.accepts c.args.verifier.now in
    let s = seen_search c.args.search.now in
    steps_ended c.search_laws.ensures.ordered c.verdict_laws.ensures.valid c.verdict_laws.ensures.one (g.F.PathFilter.counts c.args.filter.now accepts s) accepts
    (held_for accepts (map seen_statement c.args.statements.now)) s c.args.paths.now c.next.new.self c.args.asked.now c.end.new.self c.end.result
    (subst (AnswersNext c.args.paths.now c.next.new.self) c.in-NotFound.is c.in_ok-path.ensures.answers) c.end.ensures

pub returns-in-GaveUp : goal.returns-in-GaveUp
returns-in-GaveUp g c =
    let accepts = g.V.Verifier.accepts c.args.verifier.now in
    let s = seen_search c.args.search.now in
    steps_gave_up (g.F.PathFilter.counts c.args.filter.now accepts s) accepts (held_for accepts (map seen_statement c.args.statements.now)) s
    c.args.paths.now c.next.new.self c.args.asked.now c.args.asked.now (subst (AnswersNext c.args.paths.now c.next.new.self) c.in-GaveUp.is c.in_ok-path.ensures.answers)
