use Rattle.std.proofs.Common.{ℕ, ◌<◌, map, slice_index_or}
use Rattle.cert.specs.Certificate.{seen_certificate}
use Rattle.path_search.specs.Authority.{AdmitNamesOfOther}
use Rattle.path_search.proofs.authority.Authority.admits_names_above.Given as goal

abbrev pub invariant-loop-place : goal.invariant-loop-place
invariant-loop-place l =
    (i : ℕ) → i < l.place-index →
    AdmitNamesOfOther l.check l.self
    (slice_index_or (map seen_certificate l.tail.bag.now) (slice_index_or l.tail.above.now i 0) (seen_certificate l.tail.target.now))
