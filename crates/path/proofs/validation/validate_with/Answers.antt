use Rattle.std.proofs.Common.{◌≡◌, ◌+◌, ◌∙◌, ap, arith, length, subst, w64}
use Rattle.std.proofs.lemmas.Bool.{false≢true}
use Rattle.std.proofs.lemmas.Result.{err_from_is_err_and}
use Rattle.std.specs.Option.{option_copied}
use Rattle.std.proofs.Math.Facts.{to_z-of_z}
use Rattle.std.proofs.lemmas.List.{length-map}
use Rattle.cert.specs.Certificate.{seen_certificate}
use Rattle.path.specs.Query.{Query, count}
use Rattle.path.specs.Conditions.{MeetsConditions}
use Rattle.path.specs.Validity.{IsFirstFailure}
use Rattle.path.specs.State.{query_of, AsksMemoryAt}
use Rattle.path.proofs.Rooms.{split_last}
use Rattle.path.proofs.Outcomes.{failed}
use Rattle.path.proofs.validation.validate_with.Goals as goal

pub loop-state-preserved : goal.loop-state-preserved
loop-state-preserved g c =
    let old = c.loop-state.state in
    let kept = c.loop-state.invariant in
    let step = rw c.in-Passed.is at c.in_ok-next.ensures.step in
    record {
      verifier = step.5 ∙ kept.verifier;
      query = step.4 ∙ kept.query;
      within = rw (step.4, step.3) (let below = step.1 in omega arith);
      passed = rw (step.4, step.5, step.3) (split_last (λ j. MeetsConditions (g.V.Verifier.accepts old.verifier) old.query j) old.done kept.passed step.2);
    }

pub returns-in_err-next-clause-err : goal.returns-in_err-next-clause-err
returns-in_err-next-clause-err g c =
    let old = c.loop-state.state in
    let kept = c.loop-state.invariant in
    let query = kept.query ∙ (c.start_with-state.ensures.query ∙ ap (λ m. query_of c.args.anchor.now c.args.path.now m (option_copied c.args.purpose) c.args.options) (to_z-of_z {w = w64} c.ranges.moment)) in
    let verifier = kept.verifier ∙ c.start_with-state.ensures.verifier in
    let (served, below, meets) = c.in_err-next.ensures.passing in
    let accepts = g.V.Verifier.accepts old.verifier in
    let at : AsksMemoryAt accepts old.query (old.done + 1) = record {
      served = served;
      from = omega arith;
      to = omega (arith, below);
      each = split_last (λ j. MeetsConditions accepts old.query j) old.done kept.passed meets;
      carries = λ none. false≢true (c.in_err-next.ensures.calm none);
    } in
    let is = err_from_is_err_and c.from_residual.result c.from_residual.ensures.1 in
    rw is.1 (old.done + 1, subst (λ (q : Query). AsksMemoryAt (g.V.Verifier.accepts c.args.verifier.now) q (old.done + 1)) query (rw (← verifier) at))

pub returns-in_err-next-clause-calm : goal.returns-in_err-next-clause-calm
returns-in_err-next-clause-calm g c = λ none.
    let query = c.loop-state.invariant.query ∙ (c.start_with-state.ensures.query ∙ ap (λ m. query_of c.args.anchor.now c.args.path.now m (option_copied c.args.purpose) c.args.options) (to_z-of_z {w = w64} c.ranges.moment)) in
    let below = c.in_err-next.ensures.passing.1 in
    let q = ap (λ u. count u) query in
    let same = length-map c.args.path.now seen_certificate in
    absurd (false≢true (c.in_err-next.ensures.calm (rw query (none (c.loop-state.state.done + 1) (omega arith) (omega arith)))))

pub returns-in-Failed-clause-ok : goal.returns-in-Failed-clause-ok
returns-in-Failed-clause-ok g c =
    let old = c.loop-state.state in
    let kept = c.loop-state.invariant in
    let query = kept.query ∙ (c.start_with-state.ensures.query ∙ ap (λ m. query_of c.args.anchor.now c.args.path.now m (option_copied c.args.purpose) c.args.options) (to_z-of_z {w = w64} c.ranges.moment)) in
    let verifier = kept.verifier ∙ c.start_with-state.ensures.verifier in
    let step = rw c.in-Failed.is at c.in_ok-next.ensures.step in
    let done = c.done.ensures.done ∙ ap (λ s. s.done) step.1 in
    let many : count old.query ≡ length c.args.path.now = ap (λ q. count q) query ∙ length-map c.args.path.now seen_certificate in
    subst (λ (q : Query). IsFirstFailure (g.V.Verifier.accepts c.args.verifier.now) q c.failed_at.result c.in-Failed.reason) query
    (rw (← verifier) (failed (g.V.Verifier.accepts old.verifier) old.query old.done c.in-Failed.reason c.failed_at.result step.0 kept.passed
    (λ e. c.failed_at.ensures.none (omega arith))
    (λ e. c.failed_at.ensures.many (omega arith))
    (λ e f. c.failed_at.ensures.served (omega arith) (omega arith) ∙ ap (λ n. n + 1) done)))
