use Rattle.std.proofs.Common.{◌≡◌, vec_len}
use Rattle.path_issuers.specs.Lists.{AreTurnedBefore, lists_of}
use Rattle.path_issuers.proofs.lists.turned.Given as goal

abbrev pub invariant-loop-place : goal.invariant-loop-place
invariant-loop-place l = (vec_len l.turned ≡ l.count) × AreTurnedBefore l.place (lists_of l.lists) (lists_of l.turned.items)
