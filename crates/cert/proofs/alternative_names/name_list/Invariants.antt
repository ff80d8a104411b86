use Rattle.std.proofs.Common.{◌≡◌, map, [], length}
use Rattle.asn.specs.Members.{left}
use Rattle.asn.specs.Walk.{each}
use Rattle.names.specs.GeneralView.{general_name}
use Rattle.cert.specs.AlternativeNames.{one_more_name}
use Rattle.cert.proofs.alternative_names.name_list.Given as goal

abbrev pub invariant-loop-value : goal.invariant-loop-value
invariant-loop-value l = each one_more_name (map general_name l.all.items) ((left l.members).values) ≡ each one_more_name [] ((left l.fn.members).values)

abbrev pub decreases-loop-value : goal.decreases-loop-value
decreases-loop-value l = length (left l.members).values
