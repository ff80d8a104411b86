use Rattle.std.proofs.Common.{arith, sym, refl, ◌∙◌}
use Rattle.statements_facts.specs.Fact.{seen_issuer}
use Rattle.store_maps.specs.Answers.{AreAnswersHeld, AreAnswersUnder}
use Rattle.sqlite.specs.State.{HasCleanDisk}
use Rattle.store_sql.specs.Inside.{inside}
use Rattle.store_sql.proofs.Laws.{if_err_then}
use Rattle.store_maps.proofs.Chains.{answered_as, found_in, caused_then, caused_held}
use Rattle.store_maps.proofs.Looking.{answers_of, looks_through, no_answers, on_ok}
use Rattle.store_maps.proofs.on_certificate.answers_on.Goals as goal

pub returns-in_default-clause-looks_up : goal.returns-in_default-clause-looks_up
returns-in_default-clause-looks_up g c clean =
    found_in _ _ _ _ (answered_as _ _ _ c.in_ok-id.field-0 _ _ (c.in_ok-id.ensures.finds clean)
    (λ it is. no_answers it (seen_issuer c.args.issuer.now) c.args.key.now _ (sym is ∙ c.in_default.is) refl refl refl))

pub returns-clause-looks_up : goal.returns-clause-looks_up
returns-clause-looks_up g c clean =
    looks_through _ _ _ (seen_issuer c.args.issuer.now) c.in_ok-id.field-0 c.in-Some.id c.answers_under.result
    (AreAnswersUnder c.in-Some.id c.args.key.now) (AreAnswersHeld (seen_issuer c.args.issuer.now) c.args.key.now) c.in-Some.is
    (c.in_ok-id.ensures.finds (omega (arith, clean, c.answers_under.ensures.survives.clean))) (c.answers_under.ensures.finds clean)
    (λ it found is there. answers_of it (seen_issuer c.args.issuer.now) c.args.key.now c.in-Some.id found is there)

pub returns-in_default-clause-open : goal.returns-in_default-clause-open
returns-in_default-clause-open g c clean = (c.in_ok-id.ensures.known clean).was_open

pub returns-clause-open : goal.returns-clause-open
returns-clause-open g c clean = on_ok c.answers_under.result (c.in_ok-id.ensures.known (omega (arith, clean, c.answers_under.ensures.survives.clean))).was_open

pub returns-clause-caused : goal.returns-clause-caused
returns-clause-caused g c clean =
    let old = inside g.S.Store c.args.tx.now in
    let mid = inside g.S.Store c.find_issuer.new.tx in
    let new = inside g.S.Store c.answers_under.new.tx in
    let before : HasCleanDisk mid = omega (arith, clean, c.answers_under.ensures.survives.clean) in
    if_err_then c.answers_under.result _ _ (c.answers_under.ensures.caused clean) (λ fault two. caused_held old new fault (caused_then old mid new _ c.in_ok-id.field-0 fault c.find_issuer.ensures.survives c.answers_under.ensures.survives before (c.in_ok-id.ensures.finds before) two))
