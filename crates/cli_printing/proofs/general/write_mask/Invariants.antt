use Rattle.std.proofs.Common.{◌≡◌, ◌-◌, ◌++◌, ℕ, List}
use Rattle.std.specs.Io.KnownBytes.{Appends}
use Rattle.hex.specs.Hex.{encode_lower}
use Rattle.cli_printing.specs.GeneralText.{mask_octets}
use Rattle.cli_printing.proofs.general.write_mask.Given as goal

abbrev pub invariant-loop : goal.invariant-loop
invariant-loop g l = record {
  text : List ℕ;
  whole : encode_lower (mask_octets l.count l.ones) ≡ text ++ encode_lower (mask_octets (l.count - l.counter) l.left);
  written : Appends (g.W.Write.contents l.initial.writer) (g.W.Write.contents l.writer) text;
}
