use Rattle.std.proofs.Common.{arith, length}
use Rattle.der.proofs.Waiting.{octets_next, octets_grow}
use Rattle.der.proofs.values.offset_of.Goals as goal

pub loop-text-init : goal.loop-text-init
loop-text-init c = omega arith

pub overflow_sub-at-in-loop-text : goal.overflow_sub-at-in-loop-text
overflow_sub-at-in-loop-text c =
    let texts = c.args.waiting.now in
    omega (arith, octets_grow texts c.loop-text.text-index (length texts) c.loop-text-test.true, c.loop-text.invariant, c.requires)

pub loop-text-preserved : goal.loop-text-preserved
loop-text-preserved c =
    let texts = c.args.waiting.now in
    omega (arith, octets_next texts c.loop-text.text-index, octets_grow texts c.loop-text.text-index (length texts) c.loop-text-test.true, c.loop-text.invariant, c.requires)
