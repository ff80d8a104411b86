use Rattle.path.proofs.Readings.{ReadSoFar}
use Rattle.path.proofs.query.read_path.Given as goal

abbrev pub invariant-loop-index : goal.invariant-loop-index
invariant-loop-index l = ReadSoFar l.profile l.path l.index l.certificates.items
