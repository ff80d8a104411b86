use Rattle.std.proofs.Common.{◌≤◌, ◌+◌, ◌*◌, length}
use Rattle.path_issuers.specs.View.{seen_search}
use Rattle.path_issuers.specs.Asking.{IsDescending}
use Rattle.path_issuers.specs.Frontier.{left_of}
use Rattle.path_issuers.specs.Lists.{lists_of}
use Rattle.path_issuers.proofs.downward.issued_by_reached.Given as goal

abbrev pub invariant-loop-place : goal.invariant-loop-place
invariant-loop-place g l =
    IsDescending (g.V.Verifier.accepts l.verifier) (seen_search l.search) l.naming l.fn.reached l.frontier (lists_of l.issued.items)
    × (l.fn.left + (length l.search.bag.now + 1) * left_of l.frontier ≤ l.left + (length l.search.bag.now + 1) * length l.search.bag.now)

abbrev pub decreases-loop-place : goal.decreases-loop-place
decreases-loop-place g l = left_of l.frontier
