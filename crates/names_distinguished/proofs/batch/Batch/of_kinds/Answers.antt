use Rattle.names_distinguished.specs.NameView.{entry_of}
use Rattle.names_distinguished.specs.BatchView.{batched}
use Rattle.names_distinguished.specs.Repetition.{kinds_of}
use Rattle.names_distinguished.proofs.Batches.{taken_more}
use Rattle.names_distinguished.proofs.batch.Batch.of_kinds.Goals as goal

pub loop-next-preserved : goal.loop-next-preserved
loop-next-preserved c =
    taken_more (kinds_of c.args.kinds) (kinds_of c.loop-next.rest) (kinds_of c.next.new.self) (c.in-Some.next.at, c.in-Some.next.kind.now) (entry_of c.of_type.result) (batched c.loop-next.batch) (batched c.add.new.self)
    c.loop-next.invariant c.in-Some.ensures c.of_type.ensures (c.add.ensures.added c.if-not-add.false)
