use Rattle.std.proofs.Common.{map}
use Rattle.capi_values.specs.WhyNot.{obstacle_numbers}
use Rattle.capi_values.proofs.Asking.{AreFirst}
use Rattle.capi_values.proofs.diagnosis.write_obstacles.Given as goal

abbrev pub invariant-loop-index : goal.invariant-loop-index
invariant-loop-index l = AreFirst l.index (map (obstacle_numbers l.anchors) l.obstacles) l.fn.room l.room
