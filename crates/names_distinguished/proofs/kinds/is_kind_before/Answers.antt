use Rattle.std.proofs.Common.{ap, ◌∙◌}
use Rattle.std.specs.Ordering.{is_lt}
use Rattle.names_distinguished.proofs.Runs.{before_by_length, before_by_octets}
use Rattle.names_distinguished.proofs.kinds.is_kind_before.Goals as goal

pub returns-then-kind-other : goal.returns-then-kind-other
returns-then-kind-other c = c.is_lt.ensures ∙ (ap is_lt c.cmp.ensures ∙ before_by_octets c.args.kind.now c.args.other.now c.if-kind-other.true)

pub returns-else-kind-other : goal.returns-else-kind-other
returns-else-kind-other c = before_by_length c.args.kind.now c.args.other.now c.if-kind-other.false
