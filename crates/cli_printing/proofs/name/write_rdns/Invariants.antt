use Rattle.std.proofs.Common.{◌≡◌, ◌++◌, ℕ, List, length}
use Rattle.std.specs.Io.KnownBytes.{Appends}
use Rattle.std.specs.List.{flat_map}
use Rattle.asn.specs.Members.{left}
use Rattle.cli_printing.specs.NameText.{rdn_text}
use Rattle.cli_printing.proofs.name.write_rdns.Given as goal

abbrev pub invariant-loop-rdn : goal.invariant-loop-rdn
invariant-loop-rdn g l = record {
  text : List ℕ;
  whole : flat_map rdn_text (left l.fn.rdns).values ≡ text ++ flat_map rdn_text (left l.rdns).values;
  written : Appends (g.W.Write.contents l.fn.writer) (g.W.Write.contents l.writer) text;
}

abbrev pub decreases-loop-rdn : goal.decreases-loop-rdn
decreases-loop-rdn g l = length (left l.rdns).values
