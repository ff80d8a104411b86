use Rattle.names_distinguished.specs.BatchView.{batched}
use Rattle.names_distinguished.proofs.Batches.{added_at}
use Rattle.names_distinguished.proofs.batch.Batch.add.Goals as goal

pub invariant_of-self : goal.invariant_of-self
invariant_of-self c = record {
  ascends = (added_at c.args.self.now.attributes.items c.as_slice.result.now c.as_slice-else-is_full.result.now c.insert.new.self.items c.args.attribute c.place_of-place.result c.as_slice.ensures.value c.as_slice-else-is_full.ensures.value
      c.place_of-place.ensures.place (c.is_free.ensures c.if-not-is_free.false) c.insert.ensures.items c.args.self.now.ascends).1;
}

pub returns-clause-added : goal.returns-clause-added
unfolding batched
returns-clause-added c = λ done.
    (added_at c.args.self.now.attributes.items c.as_slice.result.now c.as_slice-else-is_full.result.now c.insert.new.self.items c.args.attribute c.place_of-place.result c.as_slice.ensures.value c.as_slice-else-is_full.ensures.value
    c.place_of-place.ensures.place (c.is_free.ensures c.if-not-is_free.false) c.insert.ensures.items c.args.self.now.ascends).0
