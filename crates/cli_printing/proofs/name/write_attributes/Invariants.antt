use Rattle.std.proofs.Common.{◌≡◌, ◌++◌, ℕ, List, length}
use Rattle.std.specs.Io.KnownBytes.{Appends}
use Rattle.std.specs.List.{flat_map}
use Rattle.asn.specs.Members.{left}
use Rattle.cli_printing.specs.NameText.{attributes_text, next_attribute_text}
use Rattle.cli_printing.proofs.name.write_attributes.Given as goal

abbrev pub invariant-loop-attribute : goal.invariant-loop-attribute
invariant-loop-attribute g l = record {
  text : List ℕ;
  whole : attributes_text (left l.attributes).values ≡ text ++ flat_map next_attribute_text (left l.others).values;
  written : Appends (g.W.Write.contents l.fn.writer) (g.W.Write.contents l.writer) text;
}

abbrev pub decreases-loop-attribute : goal.decreases-loop-attribute
decreases-loop-attribute g l = length (left l.others).values
