use Rattle.std.proofs.Common.{rules, ◌≡◌, ℕ, ◌+◌, length, arith, subst}
use Rattle.der_stream.specs.Front.{ValuesEndAt, none, IsFilled}
use Rattle.der_stream.proofs.Fronts.{reads_more}
use Rattle.der_stream.proofs.Enough.{next_value, stopped, needed_to_stop, went_on, needed_behind}
use Rattle.der_stream.proofs.front.read_front.Goals as goal

pub loop-init : goal.loop-init
loop-init g c = record { read = search rules; stand = rw c.new-octets.ensures.items none }

pub returns-then-not-branch-clause-read : goal.returns-then-not-branch-clause-read
returns-then-not-branch-clause-read g c =
    reads_more _ _ _ c.loop.octets c.read_value.new.octets c.loop.invariant.read c.in_ok-read_value.ensures.read

pub returns-then-not-branch-clause-enough : goal.returns-then-not-branch-clause-enough
returns-then-not-branch-clause-enough g c =
    let e = c.in_ok-read_value.ensures in
    stopped c.loop.counter c.args.most c.loop.octets.items c.read_value.new.octets.items (g.R.Read.remaining c.read_value.new.source)
    c.loop-test.true e.read.front c.loop.invariant.stand (rw c.if-not-branch.true at e.whole)

pub loop-preserved : goal.loop-preserved
loop-preserved g c =
    let e = c.in_ok-read_value.ensures in
    record {
      read = reads_more _ _ _ c.loop.octets c.read_value.new.octets c.loop.invariant.read e.read;
      stand = next_value c.loop.counter c.loop.octets.items c.read_value.new.octets.items (g.R.Read.remaining c.read_value.new.source)
          e.read.front c.loop.invariant.stand (rw c.if-not-branch.false at e.whole);
    }

pub returns-clause-read : goal.returns-clause-read
returns-clause-read g c =
    reads_more _ _ _ c.loop.octets c.fill.new.octets c.loop.invariant.read c.in_ok-fill.ensures.read

pub returns-clause-enough : goal.returns-clause-enough
returns-clause-enough g c =
    let held = c.loop.octets.items in
    let left = g.R.Read.remaining c.fill.new.source in
    let all : c.loop.counter ≡ c.args.most = omega (arith, c.loop-test.false, c.loop.auto.counter-end) in
    let len_is : c.in-Some.len ≡ length held + 1 = search rules in
    let e = c.in_ok-fill.ensures in
    went_on c.args.most held c.fill.new.octets.items left e.read.front
    (subst (λ (n : ℕ). ValuesEndAt held n (length held)) all c.loop.invariant.stand)
    (subst (λ (n : ℕ). IsFilled n c.fill.new.octets.items left) len_is e.filled)

pub returns-then-not-branch-clause-needed : goal.returns-then-not-branch-clause-needed
returns-then-not-branch-clause-needed g c =
    let e = c.in_ok-read_value.ensures in
    needed_to_stop c.loop.counter c.args.most c.loop.octets.items c.read_value.new.octets.items (g.R.Read.remaining c.read_value.new.source)
    c.loop-test.true e.read.front c.loop.invariant.stand (rw c.if-not-branch.true at e.whole)

pub returns-clause-needed : goal.returns-clause-needed
returns-clause-needed g c =
    let held = c.loop.octets.items in
    let all : c.loop.counter ≡ c.args.most = omega (arith, c.loop-test.false, c.loop.auto.counter-end) in
    let len_is : c.in-Some.len ≡ length held + 1 = search rules in
    let e = c.in_ok-fill.ensures in
    needed_behind c.args.most held c.fill.new.octets.items e.read.front
    (subst (λ (n : ℕ). ValuesEndAt held n (length held)) all c.loop.invariant.stand)
    (omega (arith, len_is, e.within (omega (arith, len_is))))
