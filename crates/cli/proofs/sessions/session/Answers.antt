use Rattle.cli.specs.Host.{host}
use Rattle.cli.specs.Streams.{streams}
use Rattle.cli.proofs.Serving.{cut, whole}
use Rattle.cli.proofs.sessions.session.Goals as goal

pub returns-clause-done : goal.returns-clause-done
returns-clause-done g c =
    whole (host g.S.Source.holds g.S.Stores.places c.args.source.now) c.args.words
    (streams g.R.Read.remaining c.args.input.now c.serve_over.new.input g.O.Write.contents c.args.out.now c.serve_over.new.out) c.serve_over.result c.outcome_of.result
    (c.serve_over.ensures.served c.in-Ok.ensures.begins c.in-Ok-open_or_make_store.ensures.found) c.outcome_of.ensures.whole

pub returns-clause-fails : goal.returns-clause-fails
returns-clause-fails g c =
    cut (host g.S.Source.holds g.S.Stores.places c.args.source.now) c.args.words
    (streams g.R.Read.remaining c.args.input.now c.serve_over.new.input g.O.Write.contents c.args.out.now c.serve_over.new.out) c.serve_over.result c.in-Ok.prints.items c.outcome_of.result
    c.in-Ok.ensures.begins (c.serve_over.ensures.served c.in-Ok.ensures.begins c.in-Ok-open_or_make_store.ensures.found) c.outcome_of.ensures.cut
