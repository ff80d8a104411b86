use Rattle.std.proofs.Common.{length}
use Rattle.std.specs.Io.KnownBytes.{Consumes}
use Rattle.der_stream.specs.Front.{ValuesEndAt}
use Rattle.der_stream.proofs.front.read_front.Given as goal

abbrev pub invariant-loop : goal.invariant-loop
invariant-loop g l = record {
  read : Consumes (g.R.Read.remaining l.initial.source) (g.R.Read.remaining l.source) l.octets.items;
  stand : ValuesEndAt l.octets.items l.counter (length l.octets.items);
}
