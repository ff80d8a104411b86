use Rattle.std.proofs.Common.{refl}
use Rattle.names_distinguished.proofs.SequenceFits.{sequence_fits}
use Rattle.names_distinguished.proofs.name_key.push_rdns.Goals as goal

pub loop-rdn-init : goal.loop-rdn-init
loop-rdn-init c = record { joined = refl; each = (sequence_fits c.args.name.now).each }
