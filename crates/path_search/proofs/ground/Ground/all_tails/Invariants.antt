use Rattle.std.proofs.Common.{◌-◌, ℕ, List, length, max}
use Rattle.path.specs.Query.{Accepts}
use Rattle.path_issuers.specs.View.{seen_search}
use Rattle.path_search.specs.Collecting.{IsCollecting}
use Rattle.path_issuers.specs.Links.{seen_links}
use Rattle.path_search.specs.Queue.{seen_tails}
use Rattle.path_issuers.specs.Upward.{AreAuthorityLinks}
use Rattle.path_search.specs.Walk.{IsBounded}
use Rattle.path_search.proofs.ground.Ground.all_tails.Given as goal

abbrev pub invariant-loop-queue : goal.invariant-loop-queue
invariant-loop-queue l = record {
  bounded : IsBounded l.steps l.initial.queue l.queue;
  collects : (accepts : Accepts) → AreAuthorityLinks accepts (seen_search l.self.search.now) (seen_links l.self.links)
      → (done : List (List ℕ)) × IsCollecting accepts (seen_search l.self.search.now) (seen_links l.self.links) done l.queue;
}

abbrev pub decreases-loop-queue : goal.decreases-loop-queue
decreases-loop-queue l = max l.steps (length (seen_tails l.initial.queue)) - l.queue.index
