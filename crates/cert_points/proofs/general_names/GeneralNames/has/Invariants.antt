use Rattle.std.proofs.Common.{◌↔◌, length, Contains}
use Rattle.asn.specs.Members.{left, octets_of_each}
use Rattle.cert_points.proofs.general_names.GeneralNames.has.Given as goal

abbrev pub invariant-loop-value : goal.invariant-loop-value
invariant-loop-value l =
    Contains (octets_of_each ((left l.members).values)) l.name ↔ Contains (octets_of_each ((left l.self.members).values)) l.name

abbrev pub decreases-loop-value : goal.decreases-loop-value
decreases-loop-value l = length (left l.members).values
