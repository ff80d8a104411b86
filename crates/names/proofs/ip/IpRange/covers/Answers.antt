use Rattle.names.proofs.Ranges.{decided}
use Rattle.names.proofs.ip.IpRange.covers.Goals as goal

pub returns-then-address-self-clause-decides : goal.returns-then-address-self-clause-decides
returns-then-address-self-clause-decides c = decided c.args.address.now c.args.self.now c.bits_agree.result c.if-address-self.true c.bits_agree.ensures
