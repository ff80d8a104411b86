use Rattle.std.proofs.Common.{◌≡◌, ◌+◌, length}
use Rattle.names_distinguished.specs.NameView.{maps_of}
use Rattle.names_distinguished.proofs.name_key.count_of.Given as goal

abbrev pub invariant-loop-after : goal.invariant-loop-after
invariant-loop-after l = l.count + length (maps_of l.rest) ≡ length (maps_of l.name)

abbrev pub decreases-loop-after : goal.decreases-loop-after
decreases-loop-after l = length (maps_of l.rest)
