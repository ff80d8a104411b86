use Rattle.std.proofs.Common.{◌≡◌, ◌++◌, map, take}
use Rattle.std.specs.List.{flat_map}
use Rattle.names_distinguished.specs.NameKey.{entry_key}
use Rattle.names_distinguished.specs.NameView.{entry_of}
use Rattle.names_distinguished.proofs.name_key.push_rdn.Given as goal

abbrev pub invariant-loop-attribute : goal.invariant-loop-attribute
invariant-loop-attribute l = l.out.items ≡ l.initial.out.items ++ flat_map entry_key (map entry_of (take l.attribute-index l.attribute-items))
