use Rattle.std.proofs.Common.{◌∙◌}
use Rattle.asn.proofs.IntegerLemmas.{slice_cmp-binary_value}
use Rattle.asn.proofs.number.Number20Ord.cmp.Goals as goal

pub returns : goal.returns
returns c = rw (← c.self.view_is, ← c.other.view_is) (c.cmp.ensures ∙ slice_cmp-binary_value c.self.inside.octets c.other.inside.octets c.self.invariant c.other.invariant)
