use Rattle.std.proofs.Common.{◌≡◌, length}
use Rattle.std.specs.FinSet.{empty}
use Rattle.asn.specs.Members.{left}
use Rattle.asn.specs.Walk.{each}
use Rattle.cert.specs.OidSet.{oids_in}
use Rattle.statements_ocsp.specs.ResponseExtensions.{one_response_extension}
use Rattle.statements_ocsp.proofs.response_extensions.check_all.Given as goal

abbrev pub invariant-loop-value : goal.invariant-loop-value
invariant-loop-value l =
    each one_response_extension (oids_in l.types) ((left l.members).values)
    ≡ each one_response_extension empty ((left l.fn.members).values)

abbrev pub decreases-loop-value : goal.decreases-loop-value
decreases-loop-value l = length (left l.members).values
