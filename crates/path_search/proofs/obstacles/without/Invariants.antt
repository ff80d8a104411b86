use Rattle.std.proofs.Common.{take}
use Rattle.std.specs.List.{Contains}
use Rattle.path_issuers.specs.Asking.{ArePicked}
use Rattle.path_search.proofs.obstacles.without.Given as goal

abbrev pub invariant-loop-place : goal.invariant-loop-place
invariant-loop-place l = ArePicked (λ place. ¬ Contains l.others place) (take l.place-index l.places) l.left.items
