use Rattle.std.proofs.Common.{◌-◌, length, arith, refl}
use Rattle.asn.proofs.IntegerLemmas.{binary_value-padded}
use Rattle.asn.proofs.number.padded.Goals as goal

pub returns : goal.returns
returns c = binary_value-padded (20 - length c.args.magnitude.now) (20 - (20 - length c.args.magnitude.now)) _ c.copy_from_slice.new.self c.args.magnitude.now refl (omega arith) c.copy_from_slice.ensures.after
