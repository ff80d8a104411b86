use Rattle.std.proofs.Common.{None}
use Rattle.std.proofs.lemmas.Result.{IfOk-weaker}
use Rattle.path_search.specs.Answer.{IsAnswer}
use Rattle.path_issuers.specs.View.{seen_search}
use Rattle.path_search.specs.Paths.{AnswersNext}
use Rattle.path_search.proofs.Walks.{first_answer}
use Rattle.path_search.proofs.paths.find.Goals as goal

pub returns : goal.returns
returns g c =
    let s = seen_search c.args.search.now in
    IfOk-weaker c.next.result (AnswersNext c.in_ok-paths.paths c.next.new.self) (IsAnswer (g.V.Verifier.accepts c.args.verifier.now) s c.args.budget)
    (λ answer answers.
    first_answer (g.V.Verifier.accepts c.args.verifier.now) s c.args.budget answer
    (answers (g.V.Verifier.accepts c.args.verifier.now) s c.args.budget None c.in_ok-paths.ensures).0)
    c.next.ensures.answers
