use Rattle.std.proofs.Common.{◌≤◌, length, take}
use Rattle.std.specs.Io.KnownBytes.{Appends}
use Rattle.cli_answers.proofs.writing.write_front.Given as goal

abbrev pub invariant-loop : goal.invariant-loop
invariant-loop g l = record {
  within : l.done ≤ length l.text;
  taken : Appends (g.W.Write.contents l.initial.writer) (g.W.Write.contents l.writer) (take l.done l.text);
}
