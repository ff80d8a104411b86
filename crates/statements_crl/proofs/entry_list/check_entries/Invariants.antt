use Rattle.std.proofs.Common.{◌≡◌, length}
use Rattle.asn.specs.Members.{left}
use Rattle.statements_crl.specs.Entry.{entries_checked, entries}
use Rattle.statements_crl.proofs.entry_list.check_entries.Given as goal

abbrev pub invariant-loop-value : goal.invariant-loop-value
invariant-loop-value l = entries_checked (entries (left l.members).values) ≡ entries_checked (entries (left l.fn.members).values)

abbrev pub decreases-loop-value : goal.decreases-loop-value
decreases-loop-value l = length (left l.members).values
