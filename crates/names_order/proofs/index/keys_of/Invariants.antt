use Rattle.std.proofs.Common.{◌≡◌, ◌++◌, drop, map}
use Rattle.names_order.specs.Index.{directory_keys, key_octets}
use Rattle.names_order.proofs.index.keys_of.Given as goal

-- the keys so far, and those of what is left
abbrev pub invariant-loop-base : goal.invariant-loop-base
invariant-loop-base l = directory_keys l.list ≡ map key_octets l.keys.items ++ directory_keys (drop l.base-index l.list)
