use Rattle.path_issuers.specs.Asking.{IsStarting}
use Rattle.path_issuers.specs.Lists.{lists_of}
use Rattle.path_issuers.proofs.downward.see_anchored.Given as goal

abbrev pub invariant-loop-place : goal.invariant-loop-place
invariant-loop-place l = IsStarting l.count l.place (lists_of l.anchors) l.frontier
