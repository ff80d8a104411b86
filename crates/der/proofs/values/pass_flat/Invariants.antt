use Rattle.der.specs.Front.{AreEncodings, SpeaksForWhole}
use Rattle.std.proofs.Common.{length}
use Rattle.der.proofs.values.pass_flat.Given as goal

abbrev pub invariant-loop-front : goal.invariant-loop-front
invariant-loop-front l = SpeaksForWhole l.text 2 l.rest 0 (AreEncodings 2 l.text)

abbrev pub decreases-loop-front : goal.decreases-loop-front
decreases-loop-front l = length l.rest
