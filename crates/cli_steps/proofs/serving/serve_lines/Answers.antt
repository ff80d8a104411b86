use Rattle.std.proofs.Common.{[], arith, refl}
use Rattle.std.proofs.KnownBytes.{Appends-nil}
use Rattle.cli_steps.specs.Held.{holding_of}
use Rattle.cli_steps.specs.Ways.{MovesParty}
use Rattle.cli_steps.proofs.Composing.{further, stays}
use Rattle.cli_steps.proofs.Lines.{ends, one_more}
use Rattle.cli_steps.proofs.serving.serve_lines.Goals as goal

pub loop-init : goal.loop-init
loop-init g c = record {
  room = c.requires.room;
  clean = λ clean. clean;
  served = record {
    lines = [];
    answers = [];
    read = refl;
    said = Appends-nil (g.W.Write.contents c.args.out.now);
    go_on = tt;
    known = λ clean. stays c.args.party.now.believed (g.K.Keeper.keeps c.args.party.now.keeper);
  };
}

pub serve_line-requires : goal.serve_line-requires
serve_line-requires g c = record { room = c.loop.invariant.room }

pub returns-in-Some-clause-clean : goal.returns-in-Some-clause-clean
returns-in-Some-clause-clean g c = λ clean. c.loop.invariant.clean (c.serve_line.ensures.clean clean)

pub returns-in-Some-clause-ended : goal.returns-in-Some-clause-ended
returns-in-Some-clause-ended g c =
    ends
    (holding_of (g.S.Source.holds c.args.source.now)) (g.R.Read.remaining c.args.input.now) (g.R.Read.remaining c.loop.input) (g.R.Read.remaining c.serve_line.new.input)
    (g.W.Write.contents c.args.out.now) (g.W.Write.contents c.loop.out) (g.W.Write.contents c.serve_line.new.out)
    (MovesParty g.K.Keeper.is_clean g.K.Keeper.keeps c.args.party.now c.loop.party)
    (MovesParty g.K.Keeper.is_clean g.K.Keeper.keeps c.loop.party c.serve_line.new.party)
    (MovesParty g.K.Keeper.is_clean g.K.Keeper.keeps c.args.party.now c.serve_line.new.party)
    (λ One Other Both so before line clean. further c.args.party.now.believed c.loop.party.believed c.serve_line.new.party.believed (g.K.Keeper.keeps c.args.party.now.keeper) (g.K.Keeper.keeps c.loop.party.keeper) (g.K.Keeper.keeps c.serve_line.new.party.keeper) One Other Both so
    (before (c.serve_line.ensures.clean clean)) (line clean))
    c.in-Some.end c.loop.invariant.served c.in-Some.ensures.serves

pub loop-preserved : goal.loop-preserved
loop-preserved g c = record {
  room = omega (arith, c.loop.invariant.room, c.serve_line.ensures.room);
  clean = λ clean. c.loop.invariant.clean (c.serve_line.ensures.clean clean);
  served = one_more
      (holding_of (g.S.Source.holds c.args.source.now)) (g.R.Read.remaining c.args.input.now) (g.R.Read.remaining c.loop.input) (g.R.Read.remaining c.serve_line.new.input)
      (g.W.Write.contents c.args.out.now) (g.W.Write.contents c.loop.out) (g.W.Write.contents c.serve_line.new.out)
      (MovesParty g.K.Keeper.is_clean g.K.Keeper.keeps c.args.party.now c.loop.party)
      (MovesParty g.K.Keeper.is_clean g.K.Keeper.keeps c.loop.party c.serve_line.new.party)
      (MovesParty g.K.Keeper.is_clean g.K.Keeper.keeps c.args.party.now c.serve_line.new.party)
      (λ One Other Both so before line clean. further c.args.party.now.believed c.loop.party.believed c.serve_line.new.party.believed (g.K.Keeper.keeps c.args.party.now.keeper) (g.K.Keeper.keeps c.loop.party.keeper) (g.K.Keeper.keeps c.serve_line.new.party.keeper) One Other Both so
      (before (c.serve_line.ensures.clean clean)) (line clean))
      c.loop.invariant.served c.in-None.ensures.serves;
}

pub returns-clause-clean : goal.returns-clause-clean
returns-clause-clean g c = c.loop.invariant.clean

pub returns-clause-ended : goal.returns-clause-ended
returns-clause-ended g c = (g.R.Read.remaining c.loop.input, c.loop.invariant.served)
