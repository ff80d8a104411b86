use Rattle.std.proofs.Common.{◌≡◌, ◌++◌, drop, map}
use Rattle.names_order.specs.Index.{key_octets}
use Rattle.names_order.proofs.index.copies_of.Given as goal

-- the copies so far, and the keys that are left
abbrev pub invariant-loop-key : goal.invariant-loop-key
invariant-loop-key l = map key_octets l.keys ≡ map key_octets l.copies.items ++ map key_octets (drop l.key-index l.keys)
