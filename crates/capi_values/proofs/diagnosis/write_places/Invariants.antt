use Rattle.capi_values.specs.WhyNot.{bag_numbers}
use Rattle.capi_values.proofs.Asking.{AreFirst}
use Rattle.capi_values.proofs.diagnosis.write_places.Given as goal

abbrev pub invariant-loop-index : goal.invariant-loop-index
invariant-loop-index l = AreFirst l.index (bag_numbers l.anchors l.places) l.fn.room l.room
