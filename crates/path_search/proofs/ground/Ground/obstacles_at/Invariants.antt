use Rattle.std.proofs.Common.{take}
use Rattle.path_issuers.specs.View.{seen_search}
use Rattle.path_search.specs.Obstacles.{AreUnmetAt}
use Rattle.path_search.proofs.ground.Ground.obstacles_at.Given as goal

abbrev pub invariant-loop-place : goal.invariant-loop-place
invariant-loop-place l = AreUnmetAt (seen_search l.self.search.now) l.above l.signers (take l.place-index l.places) l.obstacles.items
