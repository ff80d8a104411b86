use Rattle.std.proofs.Common.{◌∙◌, sym}
use Rattle.names_distinguished.proofs.Batches.{place_more, place_here}
use Rattle.names_distinguished.proofs.batch.place_of.Goals as goal

pub returns-then-not-is_kind_before-clause-place : goal.returns-then-not-is_kind_before-clause-place
returns-then-not-is_kind_before-clause-place c = record {
  before = c.loop-place.invariant;
  upto = place_here c.args.kind.now c.args.sorted.now c.loop-place.place _ c.loop-place-test.true (sym c.is_kind_before.ensures ∙ c.if-not-is_kind_before.true);
}

pub loop-place-preserved : goal.loop-place-preserved
loop-place-preserved c = place_more c.args.kind.now c.args.sorted.now c.loop-place.place _ c.loop-place-test.true c.loop-place.invariant (sym c.is_kind_before.ensures ∙ c.if-not-is_kind_before.false)
