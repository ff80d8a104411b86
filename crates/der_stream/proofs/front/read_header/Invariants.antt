use Rattle.std.proofs.Common.{◌-◌, ◌+◌, ◌≡◌, length, drop}
use Rattle.der.specs.Header.{GoesOn}
use Rattle.der_stream.specs.Front.{ReadsBehind}
use Rattle.der_stream.proofs.front.read_header.Given as goal

abbrev pub invariant-octets : goal.invariant-octets
invariant-octets g l = record {
  read : ReadsBehind (g.R.Read.remaining l.initial.source) (g.R.Read.remaining l.source) l.initial.octets l.octets;
  begin_is : l.begin ≡ length l.initial.octets.items;
  goes_on : GoesOn (drop l.begin l.octets.items);
}

abbrev pub decreases-octets : goal.decreases-octets
decreases-octets g l = 130 + l.begin - length l.octets.items
