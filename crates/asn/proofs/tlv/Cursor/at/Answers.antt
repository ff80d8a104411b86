use Rattle.std.proofs.Common.{sym}
use Rattle.asn.proofs.PlaceLemmas.{next_is}
use Rattle.asn.proofs.tlv.Cursor.at.Goals as goal

pub returns-clause-next : goal.returns-clause-next
returns-clause-next c = sym (next_is c.args.self.now.octets.now c.args.self.now.at)
