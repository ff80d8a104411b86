use Rattle.std.proofs.Common.{◌≡◌, ◌++◌, ℕ, List, length}
use Rattle.std.specs.Io.KnownBytes.{Appends}
use Rattle.std.specs.List.{flat_map}
use Rattle.statements_ocsp.specs.Single.{singles_left}
use Rattle.cli_printing.specs.ResponseText.{single_line}
use Rattle.cli_printing.proofs.response.write_singles.Given as goal

abbrev pub invariant-loop-single : goal.invariant-loop-single
invariant-loop-single g l = record {
  text : List ℕ;
  whole : flat_map single_line (singles_left l.fn.singles) ≡ text ++ flat_map single_line (singles_left l.others);
  written : Appends (g.W.Write.contents l.fn.writer) (g.W.Write.contents l.writer) text;
}

abbrev pub decreases-loop-single : goal.decreases-loop-single
decreases-loop-single g l = length (singles_left l.others)
