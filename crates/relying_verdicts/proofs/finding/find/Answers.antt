use Rattle.std.proofs.Common.{◌+◌, Some, None, arith, refl, subst, ◌∙◌}
use Rattle.std.proofs.lemmas.Result.{err_from_is_err_and}
use Rattle.sqlite.specs.State.{HasCleanDisk}
use Rattle.store_sql.specs.Inside.{inside}
use Rattle.store_rows.proofs.Laws.{survives_itself}
use Rattle.path_issuers.specs.View.{seen_search}
use Rattle.relying_search.specs.Asked.{StepsTo}
use Rattle.relying_verdicts.specs.Looking.{IsAskedOnlyIfOpen, WalksTo}
use Rattle.relying_verdicts.proofs.Chains.{asked_then, both_commit_nothing, found_as, found_same, found_then, gives_up_then}
use Rattle.relying_verdicts.proofs.Searching.{behind_open, found_open, stands_next, steps_to}
use Rattle.relying_verdicts.proofs.finding.find.Goals as goal

pub loop-init : goal.loop-init
loop-init g c = (
  refl,
  survives_itself _,
  (None, c.in_ok-paths.ensures, λ e. (refl, refl), λ clean. found_same _ _ c.none-asked.result (c.requires.inside clean) (λ held. c.none-asked.ensures.stands _ _ _)),
  λ clean some. absurd (some c.none-asked.ensures.empty),
)

pub ask_next-requires : goal.ask_next-requires
ask_next-requires g c = record { inside = λ clean. (c.loop.invariant.2.3 clean).mode }

pub returns-in_err-answer-clause-asks : goal.returns-in_err-answer-clause-asks
returns-in_err-answer-clause-asks g c clean =
    let p = err_from_is_err_and c.from_residual-in_err-answer.result c.from_residual-in_err-answer.ensures.1 in
    let before : HasCleanDisk (inside g.S.Store c.loop.tx) = omega (arith, clean, c.ask_next.ensures.survives.clean) in
    rw (p.1, p.2) (gives_up_then _ _ _ _ c.loop.asked _ (c.loop.invariant.2.3 before) (c.in_err-answer.ensures.asks clean))

pub returns-in_err-answer-clause-caused : goal.returns-in_err-answer-clause-caused
returns-in_err-answer-clause-caused g c clean =
    let p = err_from_is_err_and c.from_residual-in_err-answer.result c.from_residual-in_err-answer.ensures.1 in
    let before : HasCleanDisk (inside g.S.Store c.loop.tx) = omega (arith, clean, c.ask_next.ensures.survives.clean) in
    rw (p.1, p.2) (asked_then (inside g.S.Store c.args.tx.now) (inside g.S.Store c.loop.tx) (inside g.S.Store c.ask_next.new.tx) _ c.loop.asked _ c.loop.invariant.1 c.ask_next.ensures.survives before
    (c.loop.invariant.2.3 before) (c.in_err-answer.ensures.caused clean))

pub returns-in_err-answer-clause-valid : goal.returns-in_err-answer-clause-valid
returns-in_err-answer-clause-valid g c =
    let p = err_from_is_err_and c.from_residual-in_err-answer.result c.from_residual-in_err-answer.ensures.1 in
    let at = c.loop.invariant.2 in
    rw (p.1, p.2) (c.in_err-answer.ensures.valid (g.V.Verifier.accepts c.args.verifier.now) c.args.budget.search at.0 at.1)

pub returns-in-Some-clause-asks : goal.returns-in-Some-clause-asks
returns-in-Some-clause-asks g c clean =
    let accepts = g.V.Verifier.accepts c.args.verifier.now in
    let s = seen_search c.args.search.now in
    let at = c.loop.invariant.2 in
    let before : HasCleanDisk (inside g.S.Store c.loop.tx) = omega (arith, clean, c.ask_next.ensures.survives.clean) in
    found_then _ _ _ _ c.loop.asked _ c.in_ok-answer.answer _ c.in-Some.finding (at.3 before) (c.in_ok-answer.ensures.asks clean)
    (λ held stands steps. subst (StepsTo accepts (λ query. held) s c.args.budget at.0 (c.loop.counter + 1) c.ask_next.new.paths c.ask_next.new.asked) c.in-Some.is
    (steps accepts c.args.budget at.0 c.loop.counter at.1 stands))

pub returns-in-Some-clause-open : goal.returns-in-Some-clause-open
returns-in-Some-clause-open g c clean =
    let accepts = g.V.Verifier.accepts c.args.verifier.now in
    let s = seen_search c.args.search.now in
    let at = c.loop.invariant.2 in
    let before : HasCleanDisk (inside g.S.Store c.loop.tx) = omega (arith, clean, c.ask_next.ensures.survives.clean) in
    found_open accepts s c.args.budget at.0 c.loop.counter (inside g.S.Store c.args.tx.now).is_open (inside g.S.Store c.loop.tx).is_open c.loop.asked c.ask_next.new.asked c.ask_next.new.paths c.in-Some.finding
    (subst (IsAskedOnlyIfOpen (inside g.S.Store c.loop.tx).is_open c.loop.asked) c.in-Some.is (c.in_ok-answer.ensures.open clean))
    (at.3 before).keeps.was_open (c.loop.invariant.3 before) at.2
    (subst (WalksTo accepts s c.args.budget.search at.0 c.loop.asked c.ask_next.new.paths c.ask_next.new.asked) c.in-Some.is (c.in_ok-answer.ensures.walks accepts c.args.budget.search at.0 at.1))

pub loop-preserved : goal.loop-preserved
loop-preserved g c =
    let accepts = g.V.Verifier.accepts c.args.verifier.now in
    let s = seen_search c.args.search.now in
    let at = c.loop.invariant.2 in
    let next = subst (WalksTo accepts s c.args.budget.search at.0 c.loop.asked c.ask_next.new.paths c.ask_next.new.asked) c.in_default.is (c.in_ok-answer.ensures.walks accepts c.args.budget.search at.0 at.1) in (
      c.ask_next.ensures.same_reference ∙ c.loop.invariant.0,
      both_commit_nothing _ _ _ c.loop.invariant.1 c.ask_next.ensures.survives,
      (
        Some next.0,
        next.2,
        λ e. absurd (next.3 e),
        λ clean.
            let before : HasCleanDisk (inside g.S.Store c.loop.tx) = omega (arith, clean, c.ask_next.ensures.survives.clean) in
            found_then _ _ _ _ c.loop.asked _ c.in_ok-answer.answer _ c.ask_next.new.asked (at.3 before) (c.in_ok-answer.ensures.asks clean)
            (λ held stands steps. stands_next c.search_laws.ensures.ordered accepts s held c.args.budget at.0 c.loop.counter c.loop.paths c.ask_next.new.paths c.loop.asked c.ask_next.new.asked next.0 next.1 at.1 stands
            (steps_to accepts s held c.loop.paths c.loop.asked c.ask_next.new.paths c.ask_next.new.asked c.in_ok-answer.answer c.in_default.is (steps accepts))),
      ),
      λ clean some.
          let before : HasCleanDisk (inside g.S.Store c.loop.tx) = omega (arith, clean, c.ask_next.ensures.survives.clean) in
          (at.3 before).keeps.was_open (subst (IsAskedOnlyIfOpen (inside g.S.Store c.loop.tx).is_open c.loop.asked) c.in_default.is (c.in_ok-answer.ensures.open clean)),
    )

pub returns-clause-asks : goal.returns-clause-asks
returns-clause-asks g c clean =
    let accepts = g.V.Verifier.accepts c.args.verifier.now in
    let s = seen_search c.args.search.now in
    let at = c.loop.invariant.2 in
    found_as _ _ _ c.loop.asked _ c.in_ok-end_behind.field-0 (at.3 clean)
    (λ held stands. c.in_ok-end_behind.ensures.ends accepts (λ query. held) s c.args.budget at.0 c.loop.counter at.1 stands (omega (arith, c.loop-test.false)))

pub returns-clause-open : goal.returns-clause-open
returns-clause-open g c clean =
    let at = c.loop.invariant.2 in
    behind_open (g.V.Verifier.accepts c.args.verifier.now) (seen_search c.args.search.now) c.args.budget at.0 c.loop.counter (inside g.S.Store c.args.tx.now).is_open c.loop.asked c.loop.paths
    c.in_ok-end_behind.field-0 (c.loop.invariant.3 clean) at.2 at.1 (omega (arith, c.loop-test.false)) c.in_ok-end_behind.ensures.asked c.in_ok-end_behind.ensures.ends
