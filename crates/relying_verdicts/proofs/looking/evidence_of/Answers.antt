use Rattle.std.proofs.Common.{arith}
use Rattle.std.proofs.lemmas.Result.{err_from_is_err_and}
use Rattle.sqlite.specs.State.{HasCleanDisk}
use Rattle.store_sql.specs.Inside.{inside}
use Rattle.relying_search.specs.View.{seen_link}
use Rattle.statements_facts.specs.Fact.{seen_issuer}
use Rattle.relying_verdicts.proofs.Answering.{evidence_is}
use Rattle.relying_verdicts.proofs.Chains.{asked_then, found_then, gives_up_then}
use Rattle.relying_verdicts.proofs.looking.evidence_of.Goals as goal

pub returns-clause-asks : goal.returns-clause-asks
returns-clause-asks g c clean =
    let before : HasCleanDisk (inside g.S.Store c.look_up.new.tx) = omega (arith, clean, c.lists_at_points.ensures.survives.clean) in
    found_then _ _ _ _ c.in_ok-answers.answers _ c.in_ok-at_points.at_points _ _ (c.in_ok-answers.ensures.looks_up before) (c.in_ok-at_points.ensures.asks clean)
    (λ held here there. evidence_is held (seen_link c.args.link.now) (seen_issuer c.in_ok-issuer.issuer) c.in_ok-answers.answers c.in_ok-at_points.at_points c.in_ok-assembled.field-0
    c.in_ok-issuer.ensures c.in_ok-assembled.ensures here there)

pub returns-in_err-at_points-clause-asks : goal.returns-in_err-at_points-clause-asks
returns-in_err-at_points-clause-asks g c clean =
    let p = err_from_is_err_and c.from_residual-in_err-at_points.result c.from_residual-in_err-at_points.ensures.1 in
    rw (p.1, p.2) (gives_up_then _ _ _ _ c.in_ok-answers.answers _ (c.in_ok-answers.ensures.looks_up (omega (arith, clean, c.lists_at_points.ensures.survives.clean))) (c.in_err-at_points.ensures.asks clean))

pub returns-in_err-at_points-clause-caused : goal.returns-in_err-at_points-clause-caused
returns-in_err-at_points-clause-caused g c clean =
    let p = err_from_is_err_and c.from_residual-in_err-at_points.result c.from_residual-in_err-at_points.ensures.1 in
    let before : HasCleanDisk (inside g.S.Store c.look_up.new.tx) = omega (arith, clean, c.lists_at_points.ensures.survives.clean) in
    rw (p.1, p.2) (asked_then (inside g.S.Store c.args.tx.now) (inside g.S.Store c.look_up.new.tx) (inside g.S.Store c.lists_at_points.new.tx) _ c.in_ok-answers.answers _ c.look_up.ensures.survives c.lists_at_points.ensures.survives before (c.in_ok-answers.ensures.looks_up before) (c.in_err-at_points.ensures.caused clean))
