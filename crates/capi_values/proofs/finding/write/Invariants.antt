use Rattle.capi_values.proofs.Asking.{AreFirst}
use Rattle.capi_values.proofs.finding.write.Given as goal

abbrev pub invariant-loop-index : goal.invariant-loop-index
invariant-loop-index l = AreFirst l.index l.numbers l.fn.room l.room
