use Rattle.std.proofs.Common.{◌≡◌, ◌++◌, ℕ, List, length}
use Rattle.std.specs.Io.KnownBytes.{Appends}
use Rattle.std.specs.List.{flat_map}
use Rattle.statements_crl.specs.Entry.{entries_left}
use Rattle.cli_printing.specs.CrlText.{entry_line}
use Rattle.cli_printing.proofs.revocation_list.write_entries.Given as goal

abbrev pub invariant-loop-entry : goal.invariant-loop-entry
invariant-loop-entry g l = record {
  text : List ℕ;
  whole : flat_map entry_line (entries_left l.fn.entries) ≡ text ++ flat_map entry_line (entries_left l.others);
  written : Appends (g.W.Write.contents l.fn.writer) (g.W.Write.contents l.writer) text;
}

abbrev pub decreases-loop-entry : goal.decreases-loop-entry
decreases-loop-entry g l = length (entries_left l.others)
