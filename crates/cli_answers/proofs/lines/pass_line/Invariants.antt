use Rattle.std.proofs.Common.{List, ℕ}
use Rattle.std.specs.Io.KnownBytes.{Consumes}
use Rattle.cli_answers.specs.Lines.{HasNoFeed}
use Rattle.cli_answers.proofs.lines.pass_line.Given as goal

abbrev pub invariant-loop : goal.invariant-loop
invariant-loop g l = (octets : List ℕ) × HasNoFeed octets × Consumes (g.R.Read.remaining l.initial.source) (g.R.Read.remaining l.source) octets
