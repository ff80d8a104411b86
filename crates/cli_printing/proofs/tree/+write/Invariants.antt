use Rattle.std.proofs.Common.{◌≡◌, ◌+◌, ◌*◌, ◌≤◌, ◌++◌, ℕ, List, length}
use Rattle.std.specs.Io.KnownBytes.{Appends}
use Rattle.asn.specs.Value.{Values}
use Rattle.asn.specs.Encoding.{EncodesAllAt}
use Rattle.asn.specs.Place.{remaining}
use Rattle.cli_printing.specs.Printed.{lines_of_all}
use Rattle.cli_printing.proofs.tree.+write.Given as goal

abbrev pub decreases-write_value : goal.decreases-write_value
decreases-write_value g l = 2 * length l.tlv.whole.now

abbrev pub decreases-write_members : goal.decreases-write_members
decreases-write_members g l = 2 * length (remaining l.members).octets + 1

abbrev pub invariant-write_members-loop-tlv : goal.invariant-write_members-loop-tlv
invariant-write_members-loop-tlv g l = record {
  smaller : length (remaining l.members).octets ≤ length (remaining l.initial.members).octets;
  written : (depth : ℕ) (values : Values) → EncodesAllAt depth (remaining l.initial.members).octets values
      → (others : Values) × (text : List ℕ) × EncodesAllAt depth (remaining l.members).octets others
      × (lines_of_all l.level values ≡ text ++ lines_of_all l.level others)
      × Appends (g.W.Write.contents l.initial.writer) (g.W.Write.contents l.writer) text;
}

abbrev pub decreases-write_members-loop-tlv : goal.decreases-write_members-loop-tlv
decreases-write_members-loop-tlv g l = length (remaining l.members).octets
