use Rattle.std.proofs.Common.{ℕ, ◌<◌, get_or, vec_len}
use Rattle.path_issuers.specs.Frontier.{Grows, IsSeen}
use Rattle.path_issuers.proofs.downward.see_each.Given as goal

abbrev pub invariant-loop-place : goal.invariant-loop-place
invariant-loop-place l =
    Grows l.initial.frontier l.frontier
    × ((k : ℕ) → k < l.place-index → get_or l.places k 0 < vec_len l.initial.frontier.seen → IsSeen l.frontier (get_or l.places k 0))
