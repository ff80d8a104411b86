use Rattle.names_distinguished.proofs.SequenceFits.{sequence_fits}
use Rattle.names_distinguished.proofs.rdn_sequence.RdnSequence.key.Goals as goal

pub push_number-requires : goal.push_number-requires
push_number-requires c = let fits = (sequence_fits c.args.self.now).count_fits in rw c.count_of.ensures fits
