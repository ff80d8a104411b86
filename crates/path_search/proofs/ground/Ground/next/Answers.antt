use Rattle.std.proofs.Common.{◌≤◌, Option, length, arith, subst}
use Rattle.path_issuers.specs.View.{seen_search}
use Rattle.path_issuers.specs.Links.{seen_links}
use Rattle.path_search.specs.Queue.{seen_tails}
use Rattle.path_search.specs.Walk.{Stays, StepsTo}
use Rattle.path_search.specs.declared.answer.Answer.{Answer}
use Rattle.path_search.proofs.Standing.{if_err, past_in}
use Rattle.path_search.proofs.Walking.{ended_walk}
use Rattle.path_search.proofs.ground.Ground.next.Goals as goal

pub returns-in-Some-clause-answers : goal.returns-in-Some-clause-answers
returns-in-Some-clause-answers c = λ accepts last are stands.
    let s = seen_search c.args.self.now.search.now in
    let links = seen_links c.args.self.now.links in
    subst (λ (o : Option Answer). StepsTo accepts s links c.args.steps last c.step.new.queue o) c.in-Some.is
    (c.in_ok-answer.ensures.steps accepts last are (c.loop-queue.invariant.stands accepts last are stands))

pub loop-queue-preserved : goal.loop-queue-preserved
loop-queue-preserved c =
    let s = seen_search c.args.self.now.search.now in
    let links = seen_links c.args.self.now.links in
    let before = c.loop-queue.invariant.bounded in
    let after = c.in_ok-answer.ensures.bounded in record {
      bounded = omega (arith, before, after);
      stands = λ accepts last are stands.
          subst (λ (o : Option Answer). StepsTo accepts s links c.args.steps last c.step.new.queue o) c.in_default.is
          (c.in_ok-answer.ensures.steps accepts last are (c.loop-queue.invariant.stands accepts last are stands));
    }

pub returns-clause-answers : goal.returns-clause-answers
returns-clause-answers c = λ accepts last are stands.
    let s = seen_search c.args.self.now.search.now in
    let queue = c.loop-queue.queue in
    let here = c.loop-queue.invariant.stands accepts last are stands in
    let all : length queue.tails.items ≤ queue.index = omega (arith, c.loop-queue-test.false, c.len.ensures, queue.tails.ok.0) in (
      ended_walk accepts s (seen_links c.args.self.now.links) are last (seen_tails queue) queue.index queue.tried
          (past_in queue.tails queue.index all) here.tails,
      here,
    )

pub returns-in_err-answer-clause-kept : goal.returns-in_err-answer-clause-kept
returns-in_err-answer-clause-kept c =
    if_err c.from_residual.result (Stays (seen_search c.args.self.now.search.now) (seen_links c.args.self.now.links) c.args.queue.now c.step.new.queue)
    (λ accepts last are stands. c.in_err-answer.ensures.kept accepts last are (c.loop-queue.invariant.stands accepts last are stands))
