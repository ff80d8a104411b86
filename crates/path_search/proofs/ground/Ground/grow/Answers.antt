use Rattle.std.proofs.Common.{Bool, arith, subst, ◌∙◌, sym}
use Rattle.std.proofs.lemmas.Option.{slice_get_within}
use Rattle.path_issuers.specs.View.{seen_search}
use Rattle.path_issuers.specs.Links.{seen_links}
use Rattle.path_search.specs.Queue.{places_of, seen_tails}
use Rattle.path_search.specs.Walk.{HasTried, StaysAt, issuers_above}
use Rattle.path_search.proofs.Collected.{collecting_full, collecting_more}
use Rattle.path_search.proofs.Standing.{at_more, at_full, at_kept, bounded_more, if_err, past}
use Rattle.path_search.proofs.ground.Ground.grow.Goals as goal

pub returns-then-not-branch-clause-grows : goal.returns-then-not-branch-clause-grows
returns-then-not-branch-clause-grows c = λ accepts last are at.
    let s = seen_search c.args.self.now.search.now in
    let old = c.loop-place.queue in
    at_full accepts s (seen_links c.args.self.now.links) are last c.args.steps c.args.above.now old c.try_above.new.tails
    (subst (λ (b : Bool). HasTried s c.args.steps c.args.above.now c.in-Some.place (seen_tails old) (places_of c.try_above.new.tails) b)
    c.if-not-branch.true c.in_ok-try_above.ensures.tried)
    (c.loop-place.invariant.at accepts last are at)

pub returns-then-not-branch-clause-grows_on : goal.returns-then-not-branch-clause-grows_on
returns-then-not-branch-clause-grows_on c = λ accepts tails are at.
    let s = seen_search c.args.self.now.search.now in
    let old = c.loop-place.queue in
    collecting_full accepts s (seen_links c.args.self.now.links) are tails c.args.steps c.args.above.now old c.try_above.new.tails
    (subst (λ (b : Bool). HasTried s c.args.steps c.args.above.now c.in-Some.place (seen_tails old) (places_of c.try_above.new.tails) b)
    c.if-not-branch.true c.in_ok-try_above.ensures.tried)
    (c.loop-place.invariant.on accepts tails are at)

pub loop-place-smaller : goal.loop-place-smaller
loop-place-smaller c =
    let issuers = issuers_above (seen_search c.args.self.now.search.now) (seen_links c.args.self.now.links) c.args.above.now in
    let inside = slice_get_within issuers c.loop-place.queue.tried c.in-Some.place (sym c.in-Some.ensures.value) in
    omega arith

pub loop-place-preserved : goal.loop-place-preserved
loop-place-preserved c =
    let s = seen_search c.args.self.now.search.now in
    let old = c.loop-place.queue in
    let tried = subst (λ (b : Bool). HasTried s c.args.steps c.args.above.now c.in-Some.place (seen_tails old) (places_of c.try_above.new.tails) b)
    c.if-not-branch.false c.in_ok-try_above.ensures.tried in record {
      stays = c.loop-place.invariant.stays;
      bounded = bounded_more s c.args.steps c.args.above.now c.in-Some.place (seen_tails old) (places_of c.try_above.new.tails) _ tried
          c.loop-place.invariant.bounded;
      at = λ accepts last are at.
          at_more accepts s (seen_links c.args.self.now.links) are last c.args.steps c.args.above.now c.in-Some.place old c.try_above.new.tails
          (sym c.in-Some.ensures.value) tried (c.loop-place.invariant.at accepts last are at);
      on = λ accepts tails are at.
          collecting_more accepts s (seen_links c.args.self.now.links) are tails c.args.steps c.args.above.now c.in-Some.place old c.try_above.new.tails
          (sym c.in-Some.ensures.value) tried (c.loop-place.invariant.on accepts tails are at);
    }

pub returns-clause-grows : goal.returns-clause-grows
returns-clause-grows c = λ accepts last are at.
    let issuers = issuers_above (seen_search c.args.self.now.search.now) (seen_links c.args.self.now.links) c.args.above.now in (
      c.loop-place.invariant.at accepts last are at,
      past issuers c.loop-place.queue.tried (sym c.issuer.ensures.value ∙ c.in_default.is),
    )

pub returns-clause-grows_on : goal.returns-clause-grows_on
returns-clause-grows_on c = λ accepts tails are at.
    let issuers = issuers_above (seen_search c.args.self.now.search.now) (seen_links c.args.self.now.links) c.args.above.now in (
      c.loop-place.invariant.on accepts tails are at,
      past issuers c.loop-place.queue.tried (sym c.issuer.ensures.value ∙ c.in_default.is),
    )

pub returns-in_err-try_above-clause-kept : goal.returns-in_err-try_above-clause-kept
returns-in_err-try_above-clause-kept c =
    let s = seen_search c.args.self.now.search.now in
    let links = seen_links c.args.self.now.links in
    let old = c.loop-place.queue in
    let tails = c.try_above.new.tails in
    if_err c.from_residual.result
    (StaysAt s links c.args.above.now c.args.queue.now (record { tails = tails; index = old.index; number = old.number; tried = old.tried }))
    (λ accepts last are at.
    at_kept accepts s links are last c.args.above.now old tails c.in_err-try_above.ensures.kept
    (c.loop-place.invariant.at accepts last are at))
