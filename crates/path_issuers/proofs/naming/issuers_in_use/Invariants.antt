use Rattle.std.proofs.Common.{◌≡◌, ◌<◌, ℕ, cond, get_or, vec_len}
use Rattle.path_issuers.specs.Naming.{is_wanted}
use Rattle.path_issuers.proofs.naming.issuers_in_use.Given as goal

abbrev pub invariant-loop-place : goal.invariant-loop-place
invariant-loop-place l =
    (vec_len l.used ≡ l.place)
    × ((k : ℕ) → k < l.place → get_or l.used.items k 0 ≡ cond (is_wanted l.subjects l.wanted k) (get_or l.issuers k 0) l.none)
