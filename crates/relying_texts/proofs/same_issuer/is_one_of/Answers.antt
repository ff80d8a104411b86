use Rattle.std.proofs.Common.{sym, ◌∙◌}
use Rattle.asn.specs.Members.{left}
use Rattle.relying_texts.proofs.SameIssuers.{anywhere_if_none, at_one_of}
use Rattle.relying_texts.proofs.same_issuer.is_one_of.Goals as goal

pub returns-then-end : goal.returns-then-end
returns-then-end c = anywhere_if_none (left c.args.names.now.members) c.args.point.now c.is_empty.result (sym c.end.ensures.none ∙ c.if-end.true) c.is_empty.ensures

pub returns : goal.returns
returns c = at_one_of (left c.args.names.now.members) c.args.point.now c.has.result (sym c.end.ensures.none ∙ c.if-end.false) c.has.ensures
