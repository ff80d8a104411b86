use Rattle.std.proofs.Common.{arith}
use Rattle.names_order.proofs.BitKeys.{same_octets}
use Rattle.names_order.proofs.comparison.same_bits.Goals as goal

pub returns-then-octet_at-clause-same : goal.returns-then-octet_at-clause-same
returns-then-octet_at-clause-same c = same_octets c.args.left.now c.args.right.now c.loop-i.i c.loop-i.invariant

pub returns-clause-same : goal.returns-clause-same
returns-clause-same c = λ i lt. same_octets c.args.left.now c.args.right.now c.loop-i.i c.loop-i.invariant i (omega arith)
