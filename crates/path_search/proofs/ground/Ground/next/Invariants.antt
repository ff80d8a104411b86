use Rattle.std.proofs.Common.{◌-◌, Option, length, max}
use Rattle.path.specs.Query.{Accepts}
use Rattle.path_issuers.specs.Search.{Candidate}
use Rattle.path_issuers.specs.Links.{AreLinks, seen_links}
use Rattle.path_issuers.specs.View.{seen_search}
use Rattle.path_search.specs.Queue.{seen_tails}
use Rattle.path_search.specs.Walk.{IsBounded, StandsBehind}
use Rattle.path_search.proofs.ground.Ground.next.Given as goal

abbrev pub invariant-loop-queue : goal.invariant-loop-queue
invariant-loop-queue l = record {
  bounded : IsBounded l.steps l.initial.queue l.queue;
  stands : (accepts : Accepts) (last : Option Candidate) → AreLinks accepts (seen_search l.self.search.now) (seen_links l.self.links)
      → StandsBehind accepts (seen_search l.self.search.now) (seen_links l.self.links) last l.initial.queue
      → StandsBehind accepts (seen_search l.self.search.now) (seen_links l.self.links) last l.queue;
}

abbrev pub decreases-loop-queue : goal.decreases-loop-queue
decreases-loop-queue l = max l.steps (length (seen_tails l.initial.queue)) - l.queue.index
