use Rattle.std.proofs.Common.{refl, ◌∷◌}
use Rattle.names_distinguished.specs.NameView.{entry_of, entries_of}
use Rattle.names_distinguished.specs.BatchView.{batched}
use Rattle.names_distinguished.proofs.Batches.{set_begins, set_more}
use Rattle.names_distinguished.proofs.batch.Batch.of_set.Goals as goal

pub loop-attribute-init : goal.loop-attribute-init
loop-attribute-init c = set_begins (entry_of c.args.first ∷ entries_of c.args.others) (entries_of c.args.others) (batched c.of_one-batch.result) (entry_of c.args.first) refl c.of_one-batch.ensures

pub loop-attribute-preserved : goal.loop-attribute-preserved
loop-attribute-preserved c =
    set_more (entry_of c.args.first ∷ entries_of c.args.others) (entries_of c.loop-attribute.rest) (entries_of c.in-Some.after) (entry_of c.in-Some.attribute) (batched c.loop-attribute.batch) (batched c.add.new.self)
    c.loop-attribute.invariant c.in-Some.ensures (c.add.ensures.added c.if-not-add.false)
