use Rattle.std.proofs.Common.{◌≡◌, ◌++◌, ℕ, List, length}
use Rattle.std.specs.Io.KnownBytes.{Appends}
use Rattle.std.specs.List.{flat_map}
use Rattle.asn.specs.Members.{left, octets_of_each}
use Rattle.cli_printing.specs.GeneralText.{point_line}
use Rattle.cli_printing.proofs.general.write_points.Given as goal

abbrev pub invariant-loop-name : goal.invariant-loop-name
invariant-loop-name g l = record {
  text : List ℕ;
  whole : flat_map point_line (octets_of_each (left l.fn.names).values) ≡ text ++ flat_map point_line (octets_of_each (left l.others).values);
  written : Appends (g.W.Write.contents l.fn.writer) (g.W.Write.contents l.writer) text;
}

abbrev pub decreases-loop-name : goal.decreases-loop-name
decreases-loop-name g l = length (left l.others).values
