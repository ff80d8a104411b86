use Rattle.std.proofs.Common.{◌≡◌, inl, map, OnOk}
use Rattle.std.specs.Io.KnownBytes.{Appends}
use Rattle.clap.specs.Words.{kind_of}
use Rattle.sqlite_wal.specs.Files.{image_at}
use Rattle.cli.specs.OnMachine.{host_on}
use Rattle.cli.specs.Streams.{streams}
use Rattle.cli.proofs.Ending.{words_ended}
use Rattle.cli.proofs.Explaining.{unexplained, untold}
use Rattle.cli.proofs.starting.run_words.Goals as goal

pub returns-in-Ok-clause-answered : goal.returns-in-Ok-clause-answered
returns-in-Ok-clause-answered g c = λ answers. inl (c.in-Ok.line, c.in-Ok.ensures.reads, c.run_line.ensures.answered answers)

pub returns-in-Ok-clause-failed : goal.returns-in-Ok-clause-failed
returns-in-Ok-clause-failed g c = λ failing.
    words_ended (host_on (image_at g.S.Start) c.args.options.profile) (map (λ w. w.now) c.args.words.now) c.in-Ok.line
    (streams g.I.Read.remaining c.args.input.now c.run_line.new.input g.O.Write.contents c.args.out.now c.run_line.new.out) (c.run_line.new.out ≡ c.args.out.now) c.run_line.result
    c.in-Ok.ensures.reads (c.run_line.ensures.failed failing)

pub returns-in-Err-clause-failed : goal.returns-in-Err-clause-failed
returns-in-Err-clause-failed g c = λ failing.
    unexplained (host_on (image_at g.S.Start) c.args.options.profile) (map (λ w. w.now) c.args.words.now) (kind_of c.in-Err.error)
    (streams g.I.Read.remaining c.args.input.now c.args.input.now g.O.Write.contents c.args.out.now c.answer_of_clap.new.out) c.answer_of_clap.result.status (c.answer_of_clap.new.out ≡ c.args.out.now)
    (λ line. Unit {0}) c.in-Err.ensures.refuses
    (untold (kind_of c.in-Err.error) (c.answer_of_clap.new.out ≡ c.args.out.now)
    (λ line. OnOk c.answer_of_clap.result.told (Appends (g.E.Write.contents c.args.err.now) (g.E.Write.contents c.answer_of_clap.new.err) line))
    c.answer_of_clap.result.status (c.answer_of_clap.ensures.failed failing))
