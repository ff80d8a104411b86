use Rattle.std.proofs.Common.{rules}
use Rattle.cli_answers.specs.Lines.{IsLineRead}
use Rattle.cli_answers.specs.declared.lines.LineRead.TheVariants.{TooLong}
use Rattle.cli_steps.specs.Held.{holding_of}
use Rattle.cli_steps.specs.Ways.{MovesParty}
use Rattle.cli_steps.proofs.Lines.{too_long}
use Rattle.cli_steps.proofs.serving.serve_line.Goals as goal

pub returns-in-Ok-TooLong-clause-serves : goal.returns-in-Ok-TooLong-clause-serves
returns-in-Ok-TooLong-clause-serves g c =
    let read : IsLineRead (g.R.Read.remaining c.args.input.now) (g.R.Read.remaining c.read_line.new.source) c.read_line.new.line.items TooLong = search rules in
    too_long (holding_of (g.S.Source.holds c.args.source.now)) (g.R.Read.remaining c.args.input.now) (g.R.Read.remaining c.read_line.new.source)
    (g.W.Write.contents c.args.out.now) (g.W.Write.contents c.refuse_line.new.out)
    (MovesParty g.K.Keeper.is_clean g.K.Keeper.keeps c.args.party.now c.args.party.now)
    c.read_line.new.line.items c.refuse_line.result read c.refuse_line.ensures (λ Are stays clean state is. (state, is, stays state))
