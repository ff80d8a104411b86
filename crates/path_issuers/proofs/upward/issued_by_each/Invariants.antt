use Rattle.std.proofs.Common.{◌≤◌, ◌+◌, ◌*◌, length}
use Rattle.path_issuers.specs.View.{seen_search}
use Rattle.path_issuers.specs.Lists.{lists_of}
use Rattle.path_issuers.specs.Upward.{AreIssued}
use Rattle.path_issuers.proofs.upward.issued_by_each.Given as goal

abbrev pub invariant-loop-place : goal.invariant-loop-place
invariant-loop-place g l =
    AreIssued (g.V.Verifier.accepts l.verifier) (seen_search l.search) l.naming l.place (lists_of l.all.items)
    × (l.fn.left ≤ l.left + l.place * (length l.search.bag.now + 1))
