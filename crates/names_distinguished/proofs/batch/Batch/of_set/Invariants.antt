use Rattle.std.proofs.Common.{length, ◌∷◌}
use Rattle.names_distinguished.specs.Batch.{IsBatchOfSet}
use Rattle.names_distinguished.specs.BatchView.{batched}
use Rattle.names_distinguished.specs.NameView.{entry_of, entries_of}
use Rattle.names_distinguished.proofs.batch.Batch.of_set.Given as goal

abbrev pub invariant-loop-attribute : goal.invariant-loop-attribute
invariant-loop-attribute l = IsBatchOfSet (entry_of l.fn.first ∷ entries_of l.fn.others) (entries_of l.rest) (batched l.batch)

abbrev pub decreases-loop-attribute : goal.decreases-loop-attribute
decreases-loop-attribute l = length (entries_of l.rest)
