use Rattle.std.proofs.Common.{◌≡◌, drop}
use Rattle.test_program.specs.Shelves.{octets_under}
use Rattle.test_program.proofs.shelf.text_of.Given as goal

abbrev pub invariant-loop-text : goal.invariant-loop-text
invariant-loop-text l = octets_under (drop l.text-index l.texts) l.name ≡ octets_under l.texts l.name
