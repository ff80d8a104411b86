use Rattle.std.proofs.Common.{◌∙◌}
use Rattle.asn.specs.Members.{left}
use Rattle.names_distinguished.proofs.NewKinds.{first_has_none_before}
use Rattle.names_distinguished.proofs.attribute.repeats_kind.Goals as goal

pub returns-then-at : goal.returns-then-at
returns-then-at c = first_has_none_before c.args.kind.now c.args.at (left c.args.all) (c.if-at.true ∙ c.at.ensures.next)
