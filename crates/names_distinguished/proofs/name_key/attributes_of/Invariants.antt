use Rattle.std.proofs.Common.{◌≡◌, ◌++◌, map, length}
use Rattle.names_distinguished.specs.NameView.{entry_of, entries_of}
use Rattle.names_distinguished.proofs.name_key.attributes_of.Given as goal

abbrev pub invariant-loop-attribute : goal.invariant-loop-attribute
invariant-loop-attribute l = map entry_of l.list.items ++ entries_of l.rest ≡ entries_of l.rdn

abbrev pub decreases-loop-attribute : goal.decreases-loop-attribute
decreases-loop-attribute l = length (entries_of l.rest)
