use Rattle.std.proofs.Common.{◌≡◌, length}
use Rattle.asn.specs.Members.{left}
use Rattle.asn.specs.Walk.{each}
use Rattle.names_distinguished.specs.NameLayout.{one_more_rdn}
use Rattle.names_distinguished.proofs.name.read_rdns.Given as goal

abbrev pub invariant-loop-tlv : goal.invariant-loop-tlv
invariant-loop-tlv l = each one_more_rdn tt (left l.rdns).values ≡ each one_more_rdn tt (left l.fn.rdns).values

abbrev pub decreases-loop-tlv : goal.decreases-loop-tlv
decreases-loop-tlv l = length (left l.rdns).values
