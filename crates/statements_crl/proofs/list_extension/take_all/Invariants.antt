use Rattle.std.proofs.Common.{◌≡◌, length}
use Rattle.asn.specs.Members.{left}
use Rattle.asn.specs.Walk.{each}
use Rattle.statements_crl.specs.ListExtension.{nothing_taken_of_list, one_list_extension, seen_taken_of_list}
use Rattle.statements_crl.proofs.list_extension.take_all.Given as goal

abbrev pub invariant-loop-value : goal.invariant-loop-value
invariant-loop-value l =
    each (one_list_extension l.fn.profile) (seen_taken_of_list l.taken) ((left l.members).values)
    ≡ each (one_list_extension l.fn.profile) nothing_taken_of_list ((left l.fn.members).values)

abbrev pub decreases-loop-value : goal.decreases-loop-value
decreases-loop-value l = length (left l.members).values
