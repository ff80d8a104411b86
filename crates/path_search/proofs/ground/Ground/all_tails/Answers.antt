use Rattle.std.proofs.Common.{◌≤◌, ℕ, [], Bool, length, arith, subst}
use Rattle.std.specs.Global.{Vec}
use Rattle.std.proofs.lemmas.List.{length-map}
use Rattle.path_issuers.specs.View.{seen_search}
use Rattle.path_search.specs.Collecting.{IsAtNextTail, HasPassed}
use Rattle.path_issuers.specs.Links.{seen_links}
use Rattle.path_search.proofs.Collected.{collected, collecting_first}
use Rattle.path_search.proofs.Standing.{past_in}
use Rattle.path_search.proofs.ground.Ground.all_tails.Goals as goal

pub loop-queue-init : goal.loop-queue-init
loop-queue-init c = record {
  bounded = omega arith;
  collects = λ accepts are. (
    [],
    collecting_first accepts (seen_search c.args.self.now.search.now) (seen_links c.args.self.now.links) are c.in_ok-first_tails.field-0 c.new-queue.result
        c.in_ok-first_tails.ensures c.new-queue.ensures,
  );
}

pub returns-then-not-branch : goal.returns-then-not-branch
returns-then-not-branch c = λ accepts are.
    let at = c.loop-queue.invariant.collects accepts are in
    subst (λ (b : Bool). HasPassed accepts (seen_search c.args.self.now.search.now) (seen_links c.args.self.now.links) c.args.steps c.pass.new.queue b)
    c.if-not-branch.true (c.in_ok-pass.ensures.passes accepts at.0 are at.1)

pub loop-queue-smaller : goal.loop-queue-smaller
loop-queue-smaller c =
    let past = subst (λ (b : Bool). IsAtNextTail c.loop-queue.queue c.pass.new.queue b) c.if-not-branch.false c.in_ok-pass.ensures.past in
    let few = c.loop-queue.invariant.bounded in
    let queue = c.loop-queue.queue in
    omega (arith, past, few, c.loop-queue-test.true, c.len.ensures, queue.tails.ok.0, length-map queue.tails.items (λ (t : Vec ℕ). t.items))

pub loop-queue-preserved : goal.loop-queue-preserved
loop-queue-preserved c =
    let before = c.loop-queue.invariant.bounded in
    let after = c.in_ok-pass.ensures.bounded in record {
      bounded = omega (arith, before, after);
      collects = λ accepts are.
          let at = c.loop-queue.invariant.collects accepts are in
          subst (λ (b : Bool). HasPassed accepts (seen_search c.args.self.now.search.now) (seen_links c.args.self.now.links) c.args.steps c.pass.new.queue b)
          c.if-not-branch.false (c.in_ok-pass.ensures.passes accepts at.0 are at.1);
    }

pub returns : goal.returns
returns c = λ accepts are.
    let queue = c.loop-queue.queue in
    let at = c.loop-queue.invariant.collects accepts are in
    let all : length queue.tails.items ≤ queue.index = omega (arith, c.loop-queue-test.false, c.len.ensures, queue.tails.ok.0) in
    collected accepts (seen_search c.args.self.now.search.now) (seen_links c.args.self.now.links) are at.0 queue (past_in queue.tails queue.index all) at.1
