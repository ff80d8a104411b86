use Rattle.std.proofs.Common.{arith, inl, inr}
use Rattle.der.proofs.Headers.{too_long}
use Rattle.der.proofs.length.length_of.Goals as goal

pub returns-in_default-clause-err : goal.returns-in_default-clause-err
returns-in_default-clause-err c =
    too_long c.args.text.now c.if-first-lt128.false c.if-first.false c.if-first-2.false c.if-text-count.false c.if-high-eq0.false (inr (c.in-4.is, c.if-high-lt16.false))

pub returns-in_default-2-clause-err : goal.returns-in_default-2-clause-err
returns-in_default-2-clause-err c =
    too_long c.args.text.now c.if-first-lt128.false c.if-first.false c.if-first-2.false c.if-text-count.false c.if-high-eq0.false (inl (omega arith))
