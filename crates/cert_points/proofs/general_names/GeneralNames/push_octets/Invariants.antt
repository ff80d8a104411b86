use Rattle.std.proofs.Common.{◌≡◌, ◌++◌, length}
use Rattle.asn.specs.Members.{left, octets_of_each}
use Rattle.cert_points.specs.GeneralNames.{octets_of}
use Rattle.cert_points.proofs.general_names.GeneralNames.push_octets.Given as goal

abbrev pub invariant-loop-name : goal.invariant-loop-name
invariant-loop-name l =
    octets_of l.all ++ octets_of_each ((left l.members).values) ≡ octets_of l.fn.all ++ octets_of_each ((left l.self.members).values)

abbrev pub decreases-loop-name : goal.decreases-loop-name
decreases-loop-name l = length (left l.members).values
