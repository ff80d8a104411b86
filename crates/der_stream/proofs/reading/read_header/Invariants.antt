use Rattle.std.proofs.Common.{◌-◌, length}
use Rattle.std.specs.Io.KnownBytes.{Consumes}
use Rattle.der.specs.Header.{GoesOn}
use Rattle.der_stream.proofs.reading.read_header.Given as goal

abbrev pub invariant-octets : goal.invariant-octets
invariant-octets g l = record {
  read : Consumes (g.R.Read.remaining l.initial.source) (g.R.Read.remaining l.source) l.octets.items;
  goes_on : GoesOn l.octets.items;
}

abbrev pub decreases-octets : goal.decreases-octets
decreases-octets g l = 130 - length l.octets.items
