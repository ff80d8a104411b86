use Rattle.std.proofs.Common.{take}
use Rattle.path_issuers.specs.View.{seen_search}
use Rattle.path_issuers.specs.Asking.{ArePicked}
use Rattle.path_issuers.specs.Upward.{IsAuthorityAt}
use Rattle.path_issuers.proofs.upward.pick_authorities.Given as goal

abbrev pub invariant-loop-place : goal.invariant-loop-place
invariant-loop-place l = ArePicked (IsAuthorityAt (seen_search l.search)) (take l.place-index l.places) l.picked.items
