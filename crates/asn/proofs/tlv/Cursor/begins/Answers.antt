use Rattle.std.proofs.Common.{sym, ◌∙◌, arith}
use Rattle.asn.proofs.PlaceLemmas.{begins_is, none_first, is_first}
use Rattle.asn.proofs.tlv.Cursor.begins.Goals as goal

pub returns-in-empty : goal.returns-in-empty
returns-in-empty c = sym (none_first c.args.tag c.args.self.now.octets.now (omega arith)) ∙ begins_is c.args.tag c.args.self.now.octets.now c.args.self.now.at

pub returns-in-len1-up : goal.returns-in-len1-up
returns-in-len1-up c = sym (is_first c.args.tag c.args.self.now.octets.now (omega arith)) ∙ begins_is c.args.tag c.args.self.now.octets.now c.args.self.now.at
