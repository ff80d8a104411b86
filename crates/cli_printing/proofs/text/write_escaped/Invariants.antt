use Rattle.std.proofs.Common.{take}
use Rattle.std.specs.Io.KnownBytes.{Appends}
use Rattle.std.specs.List.{flat_map}
use Rattle.cli_printing.specs.EscapedText.{escaped_octet}
use Rattle.cli_printing.proofs.text.write_escaped.Given as goal

abbrev pub invariant-octets : goal.invariant-octets
invariant-octets g l =
    Appends (g.W.Write.contents l.initial.writer) (g.W.Write.contents l.writer) (flat_map escaped_octet (take l.octet-index l.octets))
