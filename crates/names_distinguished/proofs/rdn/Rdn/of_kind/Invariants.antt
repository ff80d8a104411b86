use Rattle.std.proofs.Common.{◌≡◌, length}
use Rattle.names_distinguished.specs.DistinguishedName.{value_at}
use Rattle.names_distinguished.specs.NameView.{entries_of}
use Rattle.names_distinguished.proofs.rdn.Rdn.of_kind.Given as goal

abbrev pub invariant-loop-attribute : goal.invariant-loop-attribute
invariant-loop-attribute l = value_at l.kind (entries_of l.self) ≡ value_at l.kind (entries_of l.rest)

abbrev pub decreases-loop-attribute : goal.decreases-loop-attribute
decreases-loop-attribute l = length (entries_of l.rest)
