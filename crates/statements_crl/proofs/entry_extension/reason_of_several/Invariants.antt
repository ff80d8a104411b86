use Rattle.std.proofs.Common.{◌≡◌, length}
use Rattle.asn.specs.Members.{left}
use Rattle.asn.specs.Walk.{each}
use Rattle.statements_crl.specs.EntryExtension.{nothing_taken_of_entry, one_entry_extension, seen_taken_of_entry}
use Rattle.statements_crl.proofs.entry_extension.reason_of_several.Given as goal

abbrev pub invariant-loop-value : goal.invariant-loop-value
invariant-loop-value l =
    each one_entry_extension (seen_taken_of_entry l.taken) ((left l.members).values)
    ≡ each one_entry_extension nothing_taken_of_entry ((left l.fn.members).values)

abbrev pub decreases-loop-value : goal.decreases-loop-value
decreases-loop-value l = length (left l.members).values
