use Rattle.std.proofs.Common.{◌≡◌, length}
use Rattle.asn.specs.Members.{left}
use Rattle.statements_ocsp.specs.Single.{singles_checked, singles}
use Rattle.statements_ocsp.proofs.single_list.check_singles.Given as goal

abbrev pub invariant-loop-value : goal.invariant-loop-value
invariant-loop-value l = singles_checked (singles l.before (left l.members).values) ≡ singles_checked (singles 0 (left l.fn.members).values)

abbrev pub decreases-loop-value : goal.decreases-loop-value
decreases-loop-value l = length (left l.members).values
