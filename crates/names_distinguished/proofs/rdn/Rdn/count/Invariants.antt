use Rattle.std.proofs.Common.{◌≡◌, ◌+◌, length}
use Rattle.names_distinguished.specs.NameView.{entries_of}
use Rattle.names_distinguished.proofs.rdn.Rdn.count.Given as goal

abbrev pub invariant-loop-after : goal.invariant-loop-after
invariant-loop-after l = l.count + length (entries_of l.rest) ≡ length (entries_of l.self)

abbrev pub decreases-loop-after : goal.decreases-loop-after
decreases-loop-after l = length (entries_of l.rest)
