use Rattle.std.proofs.Common.{◌<◌, ◌++◌, [], ◌∷◌, Bool, length, arith, subst, ◌∙◌, sym}
use Rattle.path_issuers.specs.View.{seen_search}
use Rattle.path_issuers.specs.Links.{seen_links}
use Rattle.path_search.specs.Walk.{HasGrown}
use Rattle.path_search.proofs.Collected.{collecting_at, collecting_past}
use Rattle.path_search.proofs.Standing.{tail_at, there_in}
use Rattle.path_search.proofs.ground.Ground.pass.Goals as goal

pub returns-then-not-branch-clause-passes : goal.returns-then-not-branch-clause-passes
returns-then-not-branch-clause-passes c = λ accepts done are collecting.
    let s = seen_search c.args.self.now.search.now in
    let links = seen_links c.args.self.now.links in
    let queue = c.args.queue.now in
    let above = c.deref-2.result.now in
    let inside : queue.index < length queue.tails.items = omega (arith, c.requires, queue.tails.ok.0) in
    let is =
    tail_at queue.tails queue.index c.index.result.now inside c.index.ensures
    ∙ (sym c.deref.ensures.value ∙ (sym c.in_ok-above.ensures.items ∙ sym c.deref-2.ensures.value)) in
    let grown = c.in_ok-grow.ensures.grows_on accepts done are
    (collecting_at accepts s links are done above queue (there_in queue.tails queue.index inside) is collecting) in
    subst (λ (b : Bool). HasGrown accepts s links c.args.steps above c.grow.new.queue b) c.if-not-branch.true grown.1

pub returns-clause-passes : goal.returns-clause-passes
returns-clause-passes c = λ accepts done are collecting.
    let s = seen_search c.args.self.now.search.now in
    let links = seen_links c.args.self.now.links in
    let queue = c.args.queue.now in
    let above = c.deref-2.result.now in
    let inside : queue.index < length queue.tails.items = omega (arith, c.requires, queue.tails.ok.0) in
    let is =
    tail_at queue.tails queue.index c.index.result.now inside c.index.ensures
    ∙ (sym c.deref.ensures.value ∙ (sym c.in_ok-above.ensures.items ∙ sym c.deref-2.ensures.value)) in
    let grown = c.in_ok-grow.ensures.grows_on accepts done are
    (collecting_at accepts s links are done above queue (there_in queue.tails queue.index inside) is collecting) in (
      done ++ above ∷ [],
      collecting_past accepts s links are done above c.grow.new.queue
          (subst (λ (b : Bool). HasGrown accepts s links c.args.steps above c.grow.new.queue b) c.if-not-branch.false grown.1) grown.0,
    )
