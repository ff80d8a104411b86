use Rattle.cli_words.specs.QueryTexts.{seen_words}
use Rattle.cli.specs.Host.{host}
use Rattle.cli.proofs.Asked.{checked, not_checked}
use Rattle.cli.proofs.checking.check_path.Goals as goal

pub returns-clause-checked : goal.returns-clause-checked
returns-clause-checked g c =
    checked g.S.Stores.places (host g.S.Source.holds g.S.Stores.places c.args.source.now) c.args.store.now c.args.verdicts.now (seen_words c.args.query.now)
    _ c.ask_believing.new.receiver (λ accepts query result found. found) c.ask_believing.result c.ask_believing.ensures

pub returns-clause-fails : goal.returns-clause-fails
returns-clause-fails g c =
    not_checked g.S.Stores.places (host g.S.Source.holds g.S.Stores.places c.args.source.now) c.args.store.now c.args.verdicts.now (seen_words c.args.query.now)
    _ c.ask_believing.new.receiver (λ accepts query result found. found) c.ask_believing.result c.ask_believing.ensures
