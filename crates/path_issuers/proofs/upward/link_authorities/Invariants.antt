use Rattle.std.proofs.Common.{◌≡◌, ◌<◌, ℕ, vec_len}
use Rattle.path_issuers.specs.View.{seen_search}
use Rattle.path_issuers.specs.Asking.{ArePicked}
use Rattle.path_issuers.specs.Lists.{list_at, lists_of}
use Rattle.path_issuers.specs.Upward.{IsAuthorityAt}
use Rattle.path_issuers.proofs.upward.link_authorities.Given as goal

abbrev pub invariant-loop-places : goal.invariant-loop-places
invariant-loop-places l =
    (vec_len l.issuers ≡ l.places-index)
    × ((below : ℕ) → below < l.places-index
    → ArePicked (IsAuthorityAt (seen_search l.search)) (list_at (lists_of l.signers) below) (list_at (lists_of l.issuers.items) below))
