use Rattle.std.proofs.Common.{◌∙◌}
use Rattle.asn.proofs.Splits.{is_empty_len}
use Rattle.asn.proofs.PlaceLemmas.{none_is}
use Rattle.asn.specs.Place.{ends}
use Rattle.asn.proofs.tlv.Cursor.end.Goals as goal

pub returns-clause-none : goal.returns-clause-none
returns-clause-none c = c.is_empty.ensures ∙ is_empty_len c.args.self.now.octets.now ∙ none_is c.args.self.now.octets.now c.args.self.now.at

pub returns-clause-ends : goal.returns-clause-ends
unfolding ends
returns-clause-ends c = c.is_empty.ensures ∙ is_empty_len c.args.self.now.octets.now
