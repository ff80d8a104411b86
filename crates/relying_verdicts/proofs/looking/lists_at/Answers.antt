use Rattle.std.proofs.Common.{arith, ◌∙◌}
use Rattle.std.proofs.lemmas.Result.{err_from_is_err_and}
use Rattle.cert.specs.Certificate.{seen_certificate}
use Rattle.sqlite.specs.State.{HasCleanDisk}
use Rattle.statements_facts.specs.Fact.{seen_issuer}
use Rattle.store_sql.specs.Inside.{inside}
use Rattle.relying_verdicts.proofs.Chains.{gives_up_then, both_commit_nothing, found_as, found_then, asked_then}
use Rattle.relying_verdicts.proofs.Points.{ends, goes_on}
use Rattle.relying_verdicts.proofs.looking.lists_at.Goals as goal

pub returns-in_err-answers-clause-asks : goal.returns-in_err-answers-clause-asks
returns-in_err-answers-clause-asks g c clean =
    let p = err_from_is_err_and c.from_residual.result c.from_residual.ensures.1 in
    rw (p.1, p.2) (gives_up_then _ _ _ _ c.loop-point.lists.items _ (c.loop-point.invariant.2 (omega (arith, clean, c.look_up_at.ensures.survives.clean))) (c.in_err-answers.ensures.asks clean))

pub returns-in_err-answers-clause-caused : goal.returns-in_err-answers-clause-caused
returns-in_err-answers-clause-caused g c clean =
    let p = err_from_is_err_and c.from_residual.result c.from_residual.ensures.1 in
    let before : HasCleanDisk (inside g.S.Store c.loop-point.tx) = omega (arith, clean, c.look_up_at.ensures.survives.clean) in
    rw (p.1, p.2) (asked_then (inside g.S.Store c.args.tx.now) (inside g.S.Store c.loop-point.tx) (inside g.S.Store c.look_up_at.new.tx) _ c.loop-point.lists.items _ c.loop-point.invariant.1 c.look_up_at.ensures.survives before (c.loop-point.invariant.2 before) (c.in_err-answers.ensures.caused clean))

pub loop-point-preserved : goal.loop-point-preserved
loop-point-preserved g c =
    let l = c.loop-point.invariant in (
      c.look_up_at.ensures.same_reference ∙ l.0,
      both_commit_nothing _ _ _ l.1 c.look_up_at.ensures.survives,
      λ clean. found_then _ _ _ _ c.loop-point.lists.items _ c.in_ok-answers.answers _ _ (l.2 (omega (arith, clean, c.look_up_at.ensures.survives.clean))) (c.in_ok-answers.ensures.asks clean)
          (λ held so_far found. goes_on (seen_issuer c.args.issuer.now) (seen_certificate c.args.certificate.now) c.args.points.now c.loop-point.point-index _ held
          c.loop-point.lists.items c.push_lists.new.lists.items c.in_ok-answers.answers c.loop-point-test.true c.in_ok-push_lists.ensures found so_far),
    )

pub returns-clause-asks : goal.returns-clause-asks
returns-clause-asks g c clean =
    found_as _ _ _ c.loop-point.lists.items _ c.loop-point.lists (c.loop-point.invariant.2 clean)
    (λ held so_far. ends (seen_issuer c.args.issuer.now) (seen_certificate c.args.certificate.now) c.args.points.now c.loop-point.point-index held c.loop-point.lists.items (omega (arith, c.loop-point-test.false)) so_far)
