use Rattle.cli.specs.Host.{host}
use Rattle.cli.specs.Streams.{streams}
use Rattle.cli.proofs.Ending.{flushed, unflushed}
use Rattle.cli.proofs.execution.run.Goals as goal

pub returns-in-Ok-clause-done : goal.returns-in-Ok-clause-done
returns-in-Ok-clause-done g c =
    flushed (host g.S.Source.holds g.S.Stores.places c.args.source.now) c.args.line.now
    (streams g.I.Read.remaining c.args.input.now c.answer.new.input g.O.Write.contents c.args.out.now c.answer.new.out)
    (g.O.Write.contents c.flush.new.self) c.in_ok-status.status c.flush.ensures.bytes c.in_ok-status.ensures.done

pub returns-in-Err-clause-fails : goal.returns-in-Err-clause-fails
returns-in-Err-clause-fails g c =
    unflushed (host g.S.Source.holds g.S.Stores.places c.args.source.now) c.args.line.now
    (streams g.I.Read.remaining c.args.input.now c.answer.new.input g.O.Write.contents c.args.out.now c.answer.new.out)
    (g.O.Write.contents c.flush.new.self) c.in_ok-status.status c.flush.ensures.bytes c.in_ok-status.ensures.done
