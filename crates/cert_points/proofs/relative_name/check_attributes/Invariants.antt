use Rattle.std.proofs.Common.{◌≡◌, length}
use Rattle.asn.specs.Members.{left}
use Rattle.asn.specs.Walk.{each}
use Rattle.cert_points.specs.RelativeName.{type_and_value}
use Rattle.cert_points.proofs.relative_name.check_attributes.Given as goal

abbrev pub invariant-loop-value : goal.invariant-loop-value
invariant-loop-value l = each type_and_value tt ((left l.members).values) ≡ each type_and_value tt ((left l.fn.members).values)

abbrev pub decreases-loop-value : goal.decreases-loop-value
decreases-loop-value l = length (left l.members).values
