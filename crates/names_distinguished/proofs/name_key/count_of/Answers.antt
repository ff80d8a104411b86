use Rattle.std.proofs.Common.{arith}
use Rattle.names_distinguished.proofs.SequenceFits.{sequence_fits}
use Rattle.names_distinguished.proofs.name_key.count_of.Goals as goal

pub overflow_add-count : goal.overflow_add-count
overflow_add-count c = let fits = (sequence_fits c.args.name.now).count_fits in omega (arith, c.loop-after.invariant)
