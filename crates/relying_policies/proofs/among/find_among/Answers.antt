use Rattle.std.proofs.Common.{◌+◌, Some, None, arith, map, subst}
use Rattle.std.proofs.lemmas.Result.{IfOk-weaker}
use Rattle.path_issuers.specs.View.{seen_search}
use Rattle.relying_search.specs.Finding.{seen_finding}
use Rattle.relying_search.specs.Among.{IsFindingAmong}
use Rattle.relying_search.specs.AskedAmong.{EndsAfter, StepsToAmong}
use Rattle.relying_search.proofs.AmongLaws.{ends_behind, stands_first}
use Rattle.statements.specs.Statement.{seen_statement}
use Rattle.relying_texts.specs.Texts.{held_for}
use Rattle.relying_policies.proofs.among.find_among.Goals as goal

pub loop-init : goal.loop-init
loop-init g c = (None, c.in_ok-paths.ensures, stands_first _ _ _ _ c.none-asked.result c.none-asked.ensures)

pub returns-in-Some : goal.returns-in-Some
returns-in-Some g c =
    let accepts = g.V.Verifier.accepts c.args.verifier.now in
    let s = seen_search c.args.search.now in
    let at = c.loop.invariant in
    subst (StepsToAmong (g.F.PathFilter.counts c.args.filter.now accepts s) accepts (held_for accepts (map seen_statement c.args.statements.now)) s c.args.budget at.0 (c.loop.counter + 1)
    c.ask_next.new.paths c.ask_next.new.asked) c.in-Some.is (c.in_ok-answer.ensures c.args.budget at.0 c.loop.counter at.1 at.2)

pub loop-preserved : goal.loop-preserved
loop-preserved g c =
    let accepts = g.V.Verifier.accepts c.args.verifier.now in
    let s = seen_search c.args.search.now in
    let at = c.loop.invariant in
    let next = subst (StepsToAmong (g.F.PathFilter.counts c.args.filter.now accepts s) accepts (held_for accepts (map seen_statement c.args.statements.now)) s c.args.budget at.0 (c.loop.counter + 1)
    c.ask_next.new.paths c.ask_next.new.asked) c.in_default.is (c.in_ok-answer.ensures c.args.budget at.0 c.loop.counter at.1 at.2) in
    (Some next.0, next.2, next.3)

pub returns : goal.returns
returns g c =
    let accepts = g.V.Verifier.accepts c.args.verifier.now in
    let held = held_for accepts (map seen_statement c.args.statements.now) in
    let s = seen_search c.args.search.now in
    let counts = g.F.PathFilter.counts c.args.filter.now accepts s in
    let at = c.loop.invariant in
    IfOk-weaker c.end_behind.result (EndsAfter c.loop.paths c.loop.asked) (λ finding. IsFindingAmong counts accepts held s c.args.budget (seen_finding finding))
    (λ finding ends. ends_behind c.search_laws.ensures.ordered c.verdict_laws.ensures.valid c.verdict_laws.ensures.one counts accepts held s
    c.loop.paths c.loop.asked finding c.args.budget at.0 c.loop.counter ends at.1 at.2 (omega (arith, c.loop-test.false))) c.end_behind.ensures
