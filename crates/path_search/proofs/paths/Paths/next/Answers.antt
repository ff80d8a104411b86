use Rattle.std.proofs.Common.{Some}
use Rattle.std.proofs.lemmas.Result.{IfErr-weaker, IfOk-weaker}
use Rattle.path_search.specs.Paths.{AnswersNext, PathsStay, WalkStays, WalksOn}
use Rattle.path_search.proofs.Walks.{answers_next, paths_stay}
use Rattle.path_search.proofs.paths.Paths.next.Goals as goal

pub returns-in-Some-clause-answers : goal.returns-in-Some-clause-answers
returns-in-Some-clause-answers c =
    let old = c.args.self.now in
    IfOk-weaker c.next.result (WalksOn old.budget.steps c.in-Some.walk c.next.new.self)
    (AnswersNext old (record { walk = Some c.next.new.self; budget = old.budget }))
    (λ answer answers. answers_next old c.in-Some.walk c.next.new.self answer c.in-Some.is answers) c.next.ensures.answers

pub returns-in-Some-clause-kept : goal.returns-in-Some-clause-kept
returns-in-Some-clause-kept c =
    let old = c.args.self.now in
    IfErr-weaker c.next.result (λ e. WalkStays c.in-Some.walk c.next.new.self)
    (λ e. PathsStay old (record { walk = Some c.next.new.self; budget = old.budget }))
    (λ e stays. paths_stay old c.in-Some.walk c.next.new.self c.in-Some.is stays) c.next.ensures.kept
