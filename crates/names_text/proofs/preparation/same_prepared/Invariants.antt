use Rattle.std.proofs.Common.{length}
use Rattle.names_text.proofs.Words.{SameFrom}
use Rattle.names_text.proofs.preparation.same_prepared.Given as goal

abbrev pub decreases-loop-left_word : goal.decreases-loop-left_word
decreases-loop-left_word l = length l.left_rest

abbrev pub invariant-loop-left_word : goal.invariant-loop-left_word
invariant-loop-left_word l = SameFrom l.left l.right l.left_rest l.right_rest
