use Rattle.std.proofs.Common.{take}
use Rattle.names_distinguished.proofs.Batches.{AllBefore}
use Rattle.names_distinguished.proofs.batch.place_of.Given as goal

abbrev pub invariant-loop-place : goal.invariant-loop-place
invariant-loop-place l = AllBefore l.kind (take l.place l.sorted)
