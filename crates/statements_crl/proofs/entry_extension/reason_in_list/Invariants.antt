use Rattle.std.proofs.Common.{◌≡◌, length}
use Rattle.asn.specs.Members.{left}
use Rattle.statements_crl.specs.EntryExtension.{reason_behind}
use Rattle.statements_crl.proofs.entry_extension.reason_in_list.Given as goal

abbrev pub invariant-loop-value : goal.invariant-loop-value
invariant-loop-value l = reason_behind l.reason (left l.members).values ≡ reason_behind 0 (left l.initial.members).values

abbrev pub decreases-loop-value : goal.decreases-loop-value
decreases-loop-value l = length (left l.members).values
