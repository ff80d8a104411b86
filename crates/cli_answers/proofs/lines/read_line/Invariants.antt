use Rattle.std.proofs.Common.{◌-◌, ◌≤◌, ◌^◌, vec_capacity, vec_len}
use Rattle.std.specs.Io.KnownBytes.{Consumes}
use Rattle.cli_answers.specs.Lines.{HasNoFeed}
use Rattle.cli_answers.proofs.lines.read_line.Given as goal

abbrev pub invariant-loop-source : goal.invariant-loop-source
invariant-loop-source g l = record {
  room : 2 ^ 20 ≤ vec_capacity l.line;
  kept : vec_capacity l.initial.line ≤ vec_capacity l.line;
  few : vec_len l.line ≤ 2 ^ 20;
  none : HasNoFeed l.line.items;
  read : Consumes (g.R.Read.remaining l.initial.source) (g.R.Read.remaining l.source) l.line.items;
}

abbrev pub decreases-loop-source : goal.decreases-loop-source
decreases-loop-source g l = 2 ^ 20 - vec_len l.line
