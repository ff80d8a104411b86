use Rattle.std.proofs.Common.{◌≤◌, ◌^◌, vec_capacity}
use Rattle.cli_steps.specs.Held.{holding_of}
use Rattle.cli_steps.specs.Ways.{MovesParty}
use Rattle.cli_steps.specs.Serving.{HasServed}
use Rattle.cli_steps.proofs.serving.serve_lines.Given as goal

abbrev pub invariant-loop : goal.invariant-loop
invariant-loop g l = record {
  room : 2 ^ 20 ≤ vec_capacity l.line;
  clean : g.K.Keeper.is_clean l.party.keeper → g.K.Keeper.is_clean l.initial.party.keeper;
  served : HasServed (holding_of (g.S.Source.holds l.source)) (g.R.Read.remaining l.initial.input) (g.R.Read.remaining l.input) (g.W.Write.contents l.initial.out) (g.W.Write.contents l.out)
      (MovesParty g.K.Keeper.is_clean g.K.Keeper.keeps l.initial.party l.party);
}
