use Rattle.names_distinguished.proofs.repetition.new_in_batch.Given as goal

abbrev pub decreases-loop-most : goal.decreases-loop-most
decreases-loop-most l = l.most
