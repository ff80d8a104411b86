use Rattle.std.proofs.Common.{◌-◌, ◌≤◌, length, take, drop}
use Rattle.std.specs.Io.{StartsWith}
use Rattle.std.specs.Io.KnownBytes.{Consumes}
use Rattle.der_stream.proofs.reading.read_contents.Given as goal

abbrev pub invariant-loop-filled : goal.invariant-loop-filled
invariant-loop-filled g l = record {
  filled : l.filled ≤ length l.octets.items;
  within : length l.octets.items ≤ l.len;
  front : StartsWith (take l.filled l.octets.items) l.initial.octets.items;
  read : Consumes (g.R.Read.remaining l.initial.source) (g.R.Read.remaining l.source) (drop (length l.initial.octets.items) (take l.filled l.octets.items));
}

abbrev pub decreases-loop-filled : goal.decreases-loop-filled
decreases-loop-filled g l = l.len - l.filled
