use Rattle.std.proofs.Common.{arith}
use Rattle.der.specs.Length.{end_of}
use Rattle.der.specs.Header.{BeginsWithValue}
use Rattle.der.specs.Front.{AreEncodings}
use Rattle.der.proofs.KnownFronts.{breaks, passed, primitive_value, empty_value, empty, nonempty}
use Rattle.der.proofs.values.pass_flat.Goals as goal
use Rattle.der.proofs.values.pass_flat.Goals.{else-front-via-then-front+else-not-is_empty, else-front-via-else-front}

pub returns-in_default-clause-err : goal.returns-in_default-clause-err
returns-in_default-clause-err c =
    let rest = c.loop-front.rest.now in
    breaks c.args.text.now 2 rest 0 (AreEncodings 2 c.args.text.now) c.broken_rule.result _ c.loop-front.invariant
    (nonempty rest c.is_empty.result c.is_empty.ensures c.loop-front-test.true) (omega (arith, c.loop-front.invariant.within)) (c.broken_rule.ensures 2 (omega arith))

pub loop-front-preserved : goal.loop-front-preserved
loop-front-preserved c =
    let front = c.in-Some.front in
    let rest = c.loop-front.rest.now in
    let begins = c.in-Some.ensures.some in
    let value : BeginsWithValue 2 rest (end_of rest) = elim c.else-front.branch [
      | else-front-via-then-front+else-not-is_empty w ↦ empty_value 2 rest front.constructed front.contents.now front.others.now (omega arith) w.if-front.true
          (empty front.contents.now w.is_empty-then-front.result w.is_empty-then-front.ensures w.if-not-is_empty.false) begins
      | else-front-via-else-front w ↦ primitive_value 2 rest front.constructed front.contents.now front.others.now (omega arith) w.if-front.false begins
    ] in
    passed c.args.text.now 2 rest front.others.now 0 (AreEncodings 2 c.args.text.now) begins.others_are value c.loop-front.invariant
