use Rattle.std.proofs.Common.{◌≡◌, ◌++◌, ℕ, List, length, false}
use Rattle.std.specs.Io.KnownBytes.{Appends}
use Rattle.std.specs.List.{flat_map, list_any}
use Rattle.cli_printing.specs.OidText.{dotted, dotted_number, is_long, numbers_in}
use Rattle.cli_printing.proofs.oid_text.write_numbers.Given as goal

abbrev pub invariant-loop-number : goal.invariant-loop-number
invariant-loop-number g l = record {
  short : list_any is_long (numbers_in l.rest) ≡ false;
  text : List ℕ;
  whole : dotted (numbers_in l.contents) ≡ text ++ flat_map dotted_number (numbers_in l.rest);
  written : Appends (g.W.Write.contents l.fn.writer) (g.W.Write.contents l.writer) text;
}

abbrev pub decreases-loop-number : goal.decreases-loop-number
decreases-loop-number g l = length l.rest
