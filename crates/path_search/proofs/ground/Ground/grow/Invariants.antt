use Rattle.std.proofs.Common.{◌-◌, ℕ, List, Option, length}
use Rattle.path.specs.Query.{Accepts}
use Rattle.path_issuers.specs.Search.{Candidate}
use Rattle.path_issuers.specs.Links.{AreLinks, seen_links}
use Rattle.path_issuers.specs.View.{seen_search}
use Rattle.path_issuers.specs.Upward.{AreAuthorityLinks}
use Rattle.path_search.specs.Collecting.{IsCollectingAt}
use Rattle.path_search.specs.Walk.{IsAt, IsAtSameTail, IsBounded, issuers_above}
use Rattle.path_search.proofs.ground.Ground.grow.Given as goal

abbrev pub invariant-loop-place : goal.invariant-loop-place
invariant-loop-place l = record {
  stays : IsAtSameTail l.initial.queue l.queue;
  bounded : IsBounded l.steps l.initial.queue l.queue;
  at : (accepts : Accepts) (last : Option Candidate) → AreLinks accepts (seen_search l.self.search.now) (seen_links l.self.links)
      → IsAt accepts (seen_search l.self.search.now) (seen_links l.self.links) last l.above l.initial.queue
      → IsAt accepts (seen_search l.self.search.now) (seen_links l.self.links) last l.above l.queue;
  on : (accepts : Accepts) (tails : List (List ℕ)) → AreAuthorityLinks accepts (seen_search l.self.search.now) (seen_links l.self.links)
      → IsCollectingAt accepts (seen_search l.self.search.now) (seen_links l.self.links) tails l.above l.initial.queue
      → IsCollectingAt accepts (seen_search l.self.search.now) (seen_links l.self.links) tails l.above l.queue;
}

abbrev pub decreases-loop-place : goal.decreases-loop-place
decreases-loop-place l = length (issuers_above (seen_search l.self.search.now) (seen_links l.self.links) l.above) - l.queue.tried
