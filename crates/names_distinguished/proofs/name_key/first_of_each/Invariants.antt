use Rattle.std.proofs.Common.{map, take}
use Rattle.names_distinguished.specs.NameView.{entry_of}
use Rattle.names_distinguished.proofs.Ordered.{IsFirstOfEach}
use Rattle.names_distinguished.proofs.name_key.first_of_each.Given as goal

abbrev pub invariant-loop-i : goal.invariant-loop-i
invariant-loop-i l = IsFirstOfEach (map entry_of (take l.i l.sorted)) (map entry_of l.list.items)
