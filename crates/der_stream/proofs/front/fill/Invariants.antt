use Rattle.std.proofs.Common.{◌-◌, ◌≤◌, length}
use Rattle.der_stream.specs.Front.{ReadsBehind}
use Rattle.der_stream.proofs.front.fill.Given as goal

abbrev pub invariant-loop-source : goal.invariant-loop-source
invariant-loop-source g l = record {
  read : ReadsBehind (g.R.Read.remaining l.initial.source) (g.R.Read.remaining l.source) l.initial.octets l.octets;
  within : length l.initial.octets.items ≤ l.len → length l.octets.items ≤ l.len;
}

abbrev pub decreases-loop-source : goal.decreases-loop-source
decreases-loop-source g l = l.len - length l.octets.items
