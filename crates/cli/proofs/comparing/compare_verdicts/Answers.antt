use Rattle.cli_words.specs.QueryTexts.{seen_words}
use Rattle.cli.specs.Host.{host}
use Rattle.cli.proofs.Asked.{compared, not_compared}
use Rattle.cli.proofs.comparing.compare_verdicts.Goals as goal

pub returns-clause-compared : goal.returns-clause-compared
returns-clause-compared g c =
    compared g.S.Stores.places (host g.S.Source.holds g.S.Stores.places c.args.source.now) c.args.stores c.args.verdicts.now (seen_words c.args.query.now)
    _ c.ask_believing.new.receiver (λ accepts query result found. found) c.ask_believing.result c.ask_believing.ensures

pub returns-clause-fails : goal.returns-clause-fails
returns-clause-fails g c =
    not_compared g.S.Stores.places (host g.S.Source.holds g.S.Stores.places c.args.source.now) c.args.stores c.args.verdicts.now (seen_words c.args.query.now)
    _ c.ask_believing.new.receiver (λ accepts query result found. found) c.ask_believing.result c.ask_believing.ensures
