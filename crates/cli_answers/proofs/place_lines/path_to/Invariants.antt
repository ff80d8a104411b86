use Rattle.std.proofs.Common.{map, take}
use Rattle.std.specs.Io.KnownBytes.{Appends}
use Rattle.cli_answers.specs.SearchText.{path_lines, seen_place}
use Rattle.cli_answers.proofs.place_lines.path_to.Given as goal

abbrev pub invariant-loop-index : goal.invariant-loop-index
invariant-loop-index g l = Appends (g.W.Write.contents l.fn.writer) (g.W.Write.contents l.writer) (path_lines 0 (map seen_place (take l.index l.places)))
