use Rattle.std.proofs.Common.{◌+◌, Some, None, arith, map, subst}
use Rattle.std.proofs.lemmas.Result.{IfOk-weaker}
use Rattle.path_issuers.specs.View.{seen_search}
use Rattle.relying_search.specs.Asked.{EndsBehind, StepsTo}
use Rattle.relying_search.specs.Finding.{IsFinding, seen_finding}
use Rattle.statements.specs.Statement.{seen_statement}
use Rattle.relying_texts.specs.Texts.{held_for}
use Rattle.relying_texts.proofs.finding.find.Goals as goal

pub loop-init : goal.loop-init
loop-init g c = (None, c.in_ok-paths.ensures, c.none-asked.ensures.stands _ _ _)

pub returns-in-Some : goal.returns-in-Some
returns-in-Some g c =
    let accepts = g.V.Verifier.accepts c.args.verifier.now in
    let at = c.loop.invariant in
    subst (StepsTo accepts (held_for accepts (map seen_statement c.args.statements.now)) (seen_search c.args.search.now) c.args.budget at.0 (c.loop.counter + 1)
    c.ask_next.new.paths c.ask_next.new.asked) c.in-Some.is (c.in_ok-answer.ensures c.args.budget at.0 c.loop.counter at.1 at.2)

pub loop-preserved : goal.loop-preserved
loop-preserved g c =
    let accepts = g.V.Verifier.accepts c.args.verifier.now in
    let at = c.loop.invariant in
    let next = subst (StepsTo accepts (held_for accepts (map seen_statement c.args.statements.now)) (seen_search c.args.search.now) c.args.budget at.0 (c.loop.counter + 1)
    c.ask_next.new.paths c.ask_next.new.asked) c.in_default.is (c.in_ok-answer.ensures c.args.budget at.0 c.loop.counter at.1 at.2) in
    (Some next.0, next.2, next.3)

pub returns : goal.returns
returns g c =
    let accepts = g.V.Verifier.accepts c.args.verifier.now in
    let held = held_for accepts (map seen_statement c.args.statements.now) in
    let s = seen_search c.args.search.now in
    let at = c.loop.invariant in
    IfOk-weaker c.end_behind.result (EndsBehind c.loop.paths c.loop.asked) (λ finding. IsFinding accepts held s c.args.budget (seen_finding finding))
    (λ finding ends. ends accepts held s c.args.budget at.0 c.loop.counter at.1 at.2 (omega (arith, c.loop-test.false))) c.end_behind.ensures.ends
