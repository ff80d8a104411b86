use Rattle.std.proofs.Common.{subst}
use Rattle.std.proofs.lemmas.Result.{err_from_is_err_and}
use Rattle.path_issuers.specs.View.{seen_search}
use Rattle.path_search.specs.Answer.{seen_candidate}
use Rattle.path_search.specs.Paths.{AnswersNext}
use Rattle.relying_search.proofs.Laws.{steps_ended, steps_found, steps_gave_up}
use Rattle.relying_verdicts.proofs.Chains.{found_as, found_same}
use Rattle.relying_verdicts.proofs.Searching.{has_verdict, next_fails, walks_ended, walks_found, walks_gave_up}
use Rattle.relying_verdicts.proofs.finding.ask_next.Goals as goal

pub returns-in_err-verdict-in-Found-clause-valid : goal.returns-in_err-verdict-in-Found-clause-valid
returns-in_err-verdict-in-Found-clause-valid g c =
    let p = err_from_is_err_and c.from_residual-in_err-verdict-in-Found.result c.from_residual-in_err-verdict-in-Found.ensures.1 in
    rw (p.1, p.2) (next_fails (seen_search c.args.search.now) c.args.paths.now _ c.in-Found.path _ (subst (AnswersNext c.args.paths.now _) c.in-Found.is c.in_ok-path.ensures.answers))

pub returns-in_ok-verdict-in-Found-clause-asks : goal.returns-in_ok-verdict-in-Found-clause-asks
returns-in_ok-verdict-in-Found-clause-asks g c clean =
    let s = seen_search c.args.search.now in
    found_as _ _ _ c.in_ok-verdict-in-Found.verdict _ _ (c.in_ok-verdict-in-Found.ensures.asks clean)
    (λ held is accepts. steps_found accepts (λ query. held) s c.args.paths.now _ c.args.asked.now _ c.in-Found.path c.in_ok-verdict-in-Found.verdict c.note.result
    (subst (AnswersNext c.args.paths.now _) c.in-Found.is c.in_ok-path.ensures.answers) (has_verdict accepts s held (seen_candidate c.in-Found.path) c.in_ok-verdict-in-Found.verdict is) c.note.ensures.notes)

pub returns-in_ok-verdict-in-Found-clause-walks : goal.returns-in_ok-verdict-in-Found-clause-walks
returns-in_ok-verdict-in-Found-clause-walks g c =
    walks_found (seen_search c.args.search.now) c.args.paths.now _ c.args.asked.now _ c.in-Found.path c.note.result
    (subst (AnswersNext c.args.paths.now _) c.in-Found.is c.in_ok-path.ensures.answers) c.note.ensures.asked c.note.ensures.path

pub returns-in-NotFound-clause-asks : goal.returns-in-NotFound-clause-asks
returns-in-NotFound-clause-asks g c clean =
    found_same _ _ _ (c.requires.inside clean)
    (λ held accepts. steps_ended accepts (λ query. held) (seen_search c.args.search.now) c.args.paths.now _ c.args.asked.now c.end.new.self c.end.result
    (subst (AnswersNext c.args.paths.now _) c.in-NotFound.is c.in_ok-path.ensures.answers) c.end.ensures.ends)

pub returns-in-NotFound-clause-walks : goal.returns-in-NotFound-clause-walks
returns-in-NotFound-clause-walks g c =
    walks_ended (seen_search c.args.search.now) c.args.paths.now _ c.args.asked.now c.end.new.self c.end.result
    (subst (AnswersNext c.args.paths.now _) c.in-NotFound.is c.in_ok-path.ensures.answers) c.end.ensures.asked

pub returns-in-GaveUp-clause-asks : goal.returns-in-GaveUp-clause-asks
returns-in-GaveUp-clause-asks g c clean =
    found_same _ _ _ (c.requires.inside clean)
    (λ held accepts. steps_gave_up accepts (λ query. held) (seen_search c.args.search.now) c.args.paths.now _ c.args.asked.now c.args.asked.now
    (subst (AnswersNext c.args.paths.now _) c.in-GaveUp.is c.in_ok-path.ensures.answers))

pub returns-in-GaveUp-clause-walks : goal.returns-in-GaveUp-clause-walks
returns-in-GaveUp-clause-walks g c =
    walks_gave_up (seen_search c.args.search.now) c.args.paths.now _ c.args.asked.now c.args.asked.now
    (subst (AnswersNext c.args.paths.now _) c.in-GaveUp.is c.in_ok-path.ensures.answers)
