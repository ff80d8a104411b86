use Rattle.der_stream.proofs.Longest.{none_past}
use Rattle.der_stream.proofs.sequence.path_octets.Goals as goal

pub returns-in-Err-clause-longest : goal.returns-in-Err-clause-longest
returns-in-Err-clause-longest g c = none_past _ _ _ _ c.loop-read.place c.in-Err.fault c.loop-read.invariant.4 c.in-Err.ensures.refused
