use Rattle.std.proofs.Common.{arith}
use Rattle.der.specs.Value.{none}
use Rattle.der.proofs.Faults.{below_among}
use Rattle.der.proofs.KnownFronts.{empty}
use Rattle.der.proofs.values.check_values.Goals as goal

pub returns-then-is_empty-clause-ok : goal.returns-then-is_empty-clause-ok
returns-then-is_empty-clause-ok c = c.in-Ok.ensures.ok.encoded (none, empty c.in-Ok.rest.now c.is_empty.result c.is_empty.ensures c.if-is_empty.true)

pub overflow_add-result : goal.overflow_add-result
overflow_add-result c = omega (arith, below_among c.in-Err-check_nested.ensures.err.broken.2, c.in-Ok.ensures.ok.within)

pub returns-in-Err-check_nested-clause-err : goal.returns-in-Err-check_nested-clause-err
returns-in-Err-check_nested-clause-err c =
    c.in-Ok.ensures.ok.refused c.in-Err-check_nested.rule c.in-Err-check_nested.at _ (omega (arith, c.in-Ok.ensures.ok.within)) c.in-Err-check_nested.ensures.err
