use Rattle.std.proofs.Common.{◌≤◌, ◌+◌, ◌*◌, length}
use Rattle.path_issuers.specs.View.{seen_search}
use Rattle.path_issuers.specs.Asking.{AreAnchors}
use Rattle.path_issuers.specs.Lists.{lists_of}
use Rattle.path_issuers.proofs.downward.anchors_of_all.Given as goal

abbrev pub invariant-loop-below : goal.invariant-loop-below
invariant-loop-below g l =
    AreAnchors (g.V.Verifier.accepts l.verifier) (seen_search l.search) l.naming l.below (lists_of l.anchors.items)
    × (l.fn.left ≤ l.left + l.below * length l.search.anchors.now)
