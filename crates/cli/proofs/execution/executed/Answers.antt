use Rattle.std.proofs.Common.{◌≡◌, map, OnOk}
use Rattle.std.specs.Io.KnownBytes.{Appends}
use Rattle.clap.specs.Words.{kind_of}
use Rattle.cli.specs.Host.{host}
use Rattle.cli.specs.Streams.{streams}
use Rattle.cli.proofs.Ending.{answered, either, failed, silent}
use Rattle.cli.proofs.Explaining.{either as explained, helped, silent as unheard, unexplained}
use Rattle.cli.proofs.execution.executed.Goals as goal

pub returns-in-Ok-clause-status : goal.returns-in-Ok-clause-status
returns-in-Ok-clause-status g c =
    either c.run.result c.finish.result.status (c.finish.new.err ≡ c.args.err.now) (λ line. OnOk c.finish.result.told (Appends (g.E.Write.contents c.args.err.now) (g.E.Write.contents c.finish.new.err) line))
    c.run.ensures.status c.finish.ensures.done c.finish.ensures.failed

pub returns-in-Ok-clause-answered : goal.returns-in-Ok-clause-answered
returns-in-Ok-clause-answered g c =
    answered (host g.S.Source.holds g.S.Stores.places c.args.source.now) (map (λ w. w.now) c.args.words.now) c.in-Ok.line
    (streams g.I.Read.remaining c.args.input.now c.run.new.input g.O.Write.contents c.args.out.now c.run.new.out) c.run.result c.finish.result.status (c.finish.new.err ≡ c.args.err.now)
    (λ line. OnOk c.finish.result.told (Appends (g.E.Write.contents c.args.err.now) (g.E.Write.contents c.finish.new.err) line))
    c.in-Ok.ensures.reads c.run.ensures.done c.finish.ensures.done c.finish.ensures.failed

pub returns-in-Ok-clause-silent : goal.returns-in-Ok-clause-silent
returns-in-Ok-clause-silent g c =
    silent c.run.result c.finish.result.status (c.finish.new.err ≡ c.args.err.now) (λ line. OnOk c.finish.result.told (Appends (g.E.Write.contents c.args.err.now) (g.E.Write.contents c.finish.new.err) line))
    c.finish.ensures.done c.finish.ensures.failed

pub returns-in-Ok-clause-failed : goal.returns-in-Ok-clause-failed
returns-in-Ok-clause-failed g c =
    failed (host g.S.Source.holds g.S.Stores.places c.args.source.now) (map (λ w. w.now) c.args.words.now) c.in-Ok.line
    (streams g.I.Read.remaining c.args.input.now c.run.new.input g.O.Write.contents c.args.out.now c.run.new.out) c.run.result c.finish.result.status (c.finish.new.err ≡ c.args.err.now) (c.run.new.out ≡ c.args.out.now)
    (λ line. OnOk c.finish.result.told (Appends (g.E.Write.contents c.args.err.now) (g.E.Write.contents c.finish.new.err) line))
    c.in-Ok.ensures.reads c.run.ensures.status c.run.ensures.fails c.run.ensures.quiet c.finish.ensures.done c.finish.ensures.failed

pub returns-in-Err-clause-status : goal.returns-in-Err-clause-status
returns-in-Err-clause-status g c = explained c.answer_of_clap.result.status c.answer_of_clap.ensures.status

pub returns-in-Err-clause-answered : goal.returns-in-Err-clause-answered
returns-in-Err-clause-answered g c =
    helped (host g.S.Source.holds g.S.Stores.places c.args.source.now) (map (λ w. w.now) c.args.words.now) (kind_of c.in-Err.error)
    (streams g.I.Read.remaining c.args.input.now c.args.input.now g.O.Write.contents c.args.out.now c.answer_of_clap.new.out) c.answer_of_clap.result.status (c.answer_of_clap.new.err ≡ c.args.err.now)
    c.in-Err.ensures.refuses c.answer_of_clap.ensures.status c.answer_of_clap.ensures.help

pub returns-in-Err-clause-silent : goal.returns-in-Err-clause-silent
returns-in-Err-clause-silent g c =
    unheard (kind_of c.in-Err.error) c.answer_of_clap.result.status (c.answer_of_clap.new.err ≡ c.args.err.now) c.answer_of_clap.ensures.status c.answer_of_clap.ensures.help

pub returns-in-Err-clause-failed : goal.returns-in-Err-clause-failed
returns-in-Err-clause-failed g c = λ failing.
    unexplained (host g.S.Source.holds g.S.Stores.places c.args.source.now) (map (λ w. w.now) c.args.words.now) (kind_of c.in-Err.error)
    (streams g.I.Read.remaining c.args.input.now c.args.input.now g.O.Write.contents c.args.out.now c.answer_of_clap.new.out) c.answer_of_clap.result.status (c.answer_of_clap.new.out ≡ c.args.out.now)
    (λ line. OnOk c.answer_of_clap.result.told (Appends (g.E.Write.contents c.args.err.now) (g.E.Write.contents c.answer_of_clap.new.err) line))
    c.in-Err.ensures.refuses (c.answer_of_clap.ensures.failed failing)
