use Rattle.std.proofs.Common.{length}
use Rattle.names_text.proofs.PreparedText.{IsWrittenUpTo}
use Rattle.names_text.proofs.preparation.prepared_text.Given as goal

abbrev pub decreases-loop-word : goal.decreases-loop-word
decreases-loop-word l = length l.rest

abbrev pub invariant-loop-word : goal.invariant-loop-word
invariant-loop-word l = IsWrittenUpTo l.fn.text l.out.items l.rest
