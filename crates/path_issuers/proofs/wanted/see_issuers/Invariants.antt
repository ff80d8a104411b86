use Rattle.std.proofs.Common.{◌≡◌, ℕ, ◌<◌, get_or, vec_len}
use Rattle.path_issuers.specs.Frontier.{Grows, GrowsBy, IsSeen}
use Rattle.path_issuers.proofs.wanted.see_issuers.Given as goal

abbrev pub invariant-loop-place : goal.invariant-loop-place
invariant-loop-place l =
    Grows l.initial.frontier l.frontier
    × ((k : ℕ) → k < l.place-index → get_or l.issuers (get_or l.places k 0) 0 < vec_len l.initial.frontier.seen
    → IsSeen l.frontier (get_or l.issuers (get_or l.places k 0) 0))
    × GrowsBy (λ number. (k : ℕ) × (k < l.place-index) × (get_or l.issuers (get_or l.places k 0) 0 ≡ number)) l.initial.frontier l.frontier
