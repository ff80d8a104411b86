use Rattle.names_distinguished.specs.BatchView.{batched}
use Rattle.names_distinguished.specs.Repetition.{kinds_of}
use Rattle.names_distinguished.proofs.Batches.{batch_new}
use Rattle.names_distinguished.proofs.NewKinds.{nothing_new}
use Rattle.names_distinguished.proofs.repetition.new_in_batch.Goals as goal

pub returns-then-is_apart : goal.returns-then-is_apart
returns-then-is_apart c =
    batch_new (kinds_of c.args.all) (kinds_of c.args.rest) c.args.start c.of_kinds-batch.result.1 (batched c.of_kinds-batch.result.0) c.requires c.of_kinds-batch.ensures (c.is_apart.ensures c.if-is_apart.true)

pub returns : goal.returns
returns c = nothing_new (kinds_of c.args.all) (kinds_of c.args.rest)
