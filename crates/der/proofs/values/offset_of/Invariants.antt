use Rattle.std.proofs.Common.{◌≡◌, ◌+◌, length}
use Rattle.der.specs.Front.{octets_behind}
use Rattle.der.proofs.values.offset_of.Given as goal

abbrev pub invariant-loop-text : goal.invariant-loop-text
invariant-loop-text l = l.at + (length l.rest + octets_behind l.waiting l.text-index) ≡ length l.whole
