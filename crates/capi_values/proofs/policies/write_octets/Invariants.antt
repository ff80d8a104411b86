use Rattle.capi_values.proofs.Asking.{AreFirst}
use Rattle.capi_values.proofs.policies.write_octets.Given as goal

abbrev pub invariant-loop-index : goal.invariant-loop-index
invariant-loop-index l = AreFirst l.index l.octets l.fn.room l.room
