use Rattle.std.proofs.Common.{◌∙◌, arith, sym}
use Rattle.names_order.proofs.BitKeys.{bits_end, first_decides, first_equal, same_bits_left_out, shorter}
use Rattle.names_order.proofs.comparison.compare_bits.Goals as goal

pub loop-i-init : goal.loop-i-init
loop-i-init c =
    same_bits_left_out c.args.left.now.address.now c.args.right.now.address.now c.same_bits-i.result c.args.left.now.prefix c.args.right.now.prefix
    (omega arith) (omega arith) c.same_bits-i.ensures.same

pub returns-in_default : goal.returns-in_default
returns-in_default c =
    first_decides c.args.left.now.address.now c.args.right.now.address.now c.loop-i.i c.args.left.now.prefix c.args.right.now.prefix _ c.cmp.result
    c.loop-i.invariant (omega arith) (omega arith) (rw (c.bit_at.ensures, c.bit_at-in-loop-i.ensures) at c.cmp.ensures) c.in_default.not-Equal

pub loop-i-preserved : goal.loop-i-preserved
loop-i-preserved c =
    first_equal c.args.left.now.address.now c.args.right.now.address.now c.loop-i.i c.args.left.now.prefix c.args.right.now.prefix _
    c.loop-i.invariant (omega arith) (omega arith) (rw (c.bit_at.ensures, c.bit_at-in-loop-i.ensures) at (sym c.in-Equal.is ∙ c.cmp.ensures))

pub returns : goal.returns
returns c =
    let left = c.args.left.now.prefix in
    let right = c.args.right.now.prefix in
    c.cmp-2.ensures ∙ sym (c.loop-i.invariant ∙ bits_end c.args.left.now.address.now c.args.right.now.address.now c.loop-i.i left right (omega arith) (omega arith)
    (shorter c.loop-i.i left right c.min-count.result c.min-count.ensures c.loop-i-test.false))
