use Rattle.std.proofs.Common.{◌∙◌, sym}
use Rattle.std.proofs.lemmas.Bool.{both_ways, not-true}
use Rattle.std.proofs.lemmas.Slice.Eq.{bytes_eq-Decides}
use Rattle.names_distinguished.proofs.Batches.{free_here}
use Rattle.names_distinguished.proofs.batch.is_free.Goals as goal

pub returns-then-place-sorted : goal.returns-then-place-sorted
returns-then-place-sorted c = λ free.
    free_here c.args.kind.now c.args.sorted.now c.args.place _ c.if-place-sorted.true
    (λ same. both_ways _ (not-true _ (sym c.ne.ensures ∙ free)) ((bytes_eq-Decides _ c.args.kind.now).1 same))
