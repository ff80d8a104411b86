use Rattle.std.proofs.Common.{◌≤◌, ◌+◌, take}
use Rattle.path_issuers.specs.Asking.{ArePicked, IsSought}
use Rattle.path_issuers.specs.View.{seen_search}
use Rattle.path_issuers.proofs.asking.pick.Given as goal

abbrev pub invariant-loop-place : goal.invariant-loop-place
invariant-loop-place g l =
    ArePicked (IsSought (g.V.Verifier.accepts l.verifier) (seen_search l.search) l.sought) (take l.place-index l.places) l.picked.items
    × (l.fn.left ≤ l.left + l.place-index)
