use Rattle.std.proofs.Common.{◌≡◌, vec_len}
use Rattle.path_issuers.specs.Lists.{ArePlacesBefore, lists_of}
use Rattle.path_issuers.proofs.lists.places_by_number.Given as goal

abbrev pub invariant-loop-place : goal.invariant-loop-place
invariant-loop-place l = (vec_len l.lists ≡ l.count) × ArePlacesBefore l.place l.numbers (lists_of l.lists.items)
