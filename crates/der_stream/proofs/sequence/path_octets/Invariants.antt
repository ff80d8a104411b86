use Rattle.std.proofs.Common.{◌≡◌, ◌-◌, ◌*◌, ◌≤◌, map, length}
use Rattle.der_stream.specs.Sequence.{joined, BeginsFrom}
use Rattle.der_stream.proofs.sequence.path_octets.Given as goal

abbrev pub invariant-loop-read : goal.invariant-loop-read
invariant-loop-read g l =
    let values = map (λ octets. octets.items) l.values.items in
    (l.read ≤ l.most) × (length l.values.items ≡ l.read) × (l.place ≡ length (joined values)) × (l.place ≤ l.read * 268435461)
    × BeginsFrom 268435461 (g.R.Read.remaining l.fn.source) values (g.R.Read.remaining l.source)

abbrev pub decreases-loop-read : goal.decreases-loop-read
decreases-loop-read g l = l.most - l.read
