use Rattle.std.proofs.Common.{Bool, subst, arith}
use Rattle.path_issuers.specs.View.{seen_search}
use Rattle.path_issuers.specs.Links.{seen_links}
use Rattle.path_search.specs.Walk.{HasGrown}
use Rattle.path_search.proofs.Standing.{at_stands, at_turned}
use Rattle.path_search.proofs.ground.Ground.turn.Goals as goal

pub returns-then-not-branch-clause-turns : goal.returns-then-not-branch-clause-turns
returns-then-not-branch-clause-turns c = λ accepts last are at anchors.
    let s = seen_search c.args.self.now.search.now in
    let links = seen_links c.args.self.now.links in
    let grown = c.in_ok-grow.ensures.grows accepts last are at in (
      subst (λ (b : Bool). HasGrown accepts s links c.args.steps c.args.above.now c.grow.new.queue b) c.if-not-branch.true grown.1,
      at_stands accepts s links are last c.args.above.now c.grow.new.queue grown.0,
    )

pub returns-clause-turns : goal.returns-clause-turns
returns-clause-turns c = λ accepts last are at anchors.
    let s = seen_search c.args.self.now.search.now in
    let links = seen_links c.args.self.now.links in
    let grown = c.in_ok-grow.ensures.grows accepts last are at in
    at_turned accepts s links are last c.args.above.now c.grow.new.queue (omega (arith, c.in_ok-grow.ensures.stays.1))
    (subst (λ (b : Bool). HasGrown accepts s links c.args.steps c.args.above.now c.grow.new.queue b) c.if-not-branch.false grown.1) grown.0
