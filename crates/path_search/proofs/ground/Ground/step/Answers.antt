use Rattle.std.proofs.Common.{◌≡◌, ◌<◌, Some, None, length, slice_get, arith, subst, ◌∙◌, sym}
use Rattle.std.proofs.lemmas.Result.{IfErr-weaker, IfOk-weaker}
use Rattle.path_issuers.specs.Search.{Candidate}
use Rattle.path_issuers.specs.View.{seen_search}
use Rattle.path_issuers.specs.Links.{seen_links}
use Rattle.path_search.specs.Walk.{Stays, StaysAt, Steps, Turns, anchors_above}
use Rattle.path_search.proofs.Standing.{at_handed, past, stands_at, stays_on, steps_on, tail_at, there_in}
use Rattle.path_search.proofs.ground.Ground.step.Goals as goal

pub returns-in-Some-clause-steps : goal.returns-in-Some-clause-steps
returns-in-Some-clause-steps c = λ accepts last are stands.
    let s = seen_search c.args.self.now.search.now in
    let links = seen_links c.args.self.now.links in
    let queue = c.args.queue.now in
    let candidate : Candidate = record { anchor = c.in-Some.anchor; above = c.in_ok-above.above.items } in
    let inside : queue.index < length queue.tails.items = omega (arith, c.requires, queue.tails.ok.0) in
    let is = tail_at queue.tails queue.index c.index.result.now inside c.index.ensures ∙ (sym c.deref.ensures.value ∙ sym c.in_ok-above.ensures.items) in
    at_handed accepts s links are last candidate queue
    (subst (λ l. slice_get (anchors_above s links l) queue.number ≡ Some c.in-Some.anchor) c.deref-2.ensures.value (sym c.in-Some.ensures.value))
    (stands_at accepts s links are last candidate.above queue (there_in queue.tails queue.index inside) is stands)

pub returns-in-None-clause-steps : goal.returns-in-None-clause-steps
returns-in-None-clause-steps c =
    let s = seen_search c.args.self.now.search.now in
    let links = seen_links c.args.self.now.links in
    let queue = c.args.queue.now in
    let inside : queue.index < length queue.tails.items = omega (arith, c.requires, queue.tails.ok.0) in
    let items = c.in_ok-above.above.items in
    let is = tail_at queue.tails queue.index c.index.result.now inside c.index.ensures ∙ (sym c.deref.ensures.value ∙ sym c.in_ok-above.ensures.items) in
    let none = subst (λ l. slice_get (anchors_above s links l) queue.number ≡ None) c.deref-2.ensures.value (sym c.in-None.ensures.value) in
    IfOk-weaker c.turn.result (Turns s links c.args.steps c.deref-in-None.result.now queue c.turn.new.queue) (Steps s links c.args.steps queue c.turn.new.queue)
    (λ answer turns.
    steps_on s links c.args.steps items queue c.turn.new.queue answer (there_in queue.tails queue.index inside) is
    (past (anchors_above s links items) queue.number none)
    (subst (λ l. Turns s links c.args.steps l queue c.turn.new.queue answer) c.deref-in-None.ensures.value turns))
    c.turn.ensures.turns

pub returns-in-None-clause-kept : goal.returns-in-None-clause-kept
returns-in-None-clause-kept c =
    let s = seen_search c.args.self.now.search.now in
    let links = seen_links c.args.self.now.links in
    let queue = c.args.queue.now in
    let inside : queue.index < length queue.tails.items = omega (arith, c.requires, queue.tails.ok.0) in
    let items = c.in_ok-above.above.items in
    let is = tail_at queue.tails queue.index c.index.result.now inside c.index.ensures ∙ (sym c.deref.ensures.value ∙ sym c.in_ok-above.ensures.items) in
    IfErr-weaker c.turn.result (λ e. StaysAt s links c.deref-in-None.result.now queue c.turn.new.queue) (λ e. Stays s links queue c.turn.new.queue)
    (λ e stays.
    stays_on s links items queue c.turn.new.queue (there_in queue.tails queue.index inside) is
    (subst (λ l. StaysAt s links l queue c.turn.new.queue) c.deref-in-None.ensures.value stays))
    c.turn.ensures.kept
